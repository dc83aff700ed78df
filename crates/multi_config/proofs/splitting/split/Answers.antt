use Rattle.std.proofs.Common.{◌≡◌, ◌∙◌, ap, sym, map, List, Result, Ok}
use Rattle.multi_config.specs.declared.parts.ConfigTargets.{ConfigTargets}
use Rattle.multi_config.specs.declared.places.Placed.{Placed}
use Rattle.multi_config.specs.Words.{WordRefusal, part_of, parts_in, parts_of, reached}
use Rattle.multi_config.proofs.Named.{parts_named}
use Rattle.multi_config.proofs.splitting.split.Goals as goal

pub returns-in_ok-parts_in-in-Ok-clause-names : goal.returns-in_ok-parts_in-in-Ok-clause-names
unfolding parts_of
returns-in_ok-parts_in-in-Ok-clause-names c =
    let task = c.args.task.now in
    let made = c.in_ok-parts_in-in-Ok.field-0.items in
    let same : made ≡ map (part_of task c.in-Ok.places.items) (reached c.in-Ok.places.items) = c.in_ok-parts_in-in-Ok.ensures ∙ ap (λ (ps : List Placed). map (part_of task ps) (reached ps)) c.as_slice.ensures.value in
    let is : parts_of c.args.configs.now task c.args.words.now ≡ Ok made = ap (parts_in task) c.in-Ok.ensures.ok ∙ ap (λ (l : List ConfigTargets). let r : Result (List ConfigTargets) WordRefusal = Ok l in r) (sym same) in
    parts_named c.args.configs.now task c.args.words.now made is
