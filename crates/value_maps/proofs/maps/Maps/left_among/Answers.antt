use Rattle.std.proofs.Common.{◌∙◌, ap, filter, take, ◌++◌, ◌∷◌, [], if◌then◌else◌, arith}
use Rattle.std.proofs.lemmas.Grind.{common_steps}
use Rattle.meta_model.specs.Base.{is_left}
use Rattle.value_maps.proofs.Naming.{filter_turn}
use Rattle.value_maps.proofs.maps.Maps.left_among.Goals as goal

pub loop-name-preserved : goal.loop-name-preserved
loop-name-preserved c = λ list keeps.
    let xs = c.args.keys.now in
    let i = c.loop-name.name-index in
    c.in_ok-push_if.ensures ∙ ap (λ m. m ++ (if c.is_left.result then c.name-item.result ∷ [] else [])) (c.loop-name.invariant list keeps)
    ∙ ap (λ b. filter (is_left list) (take i xs) ++ (if b then c.name-item.result ∷ [] else [])) (c.is_left.ensures list keeps ∙ ap (is_left list) c.as_str.ensures)
    ∙ filter_turn (is_left list) xs i c.name-item.result c.name-item.is c.loop-name-test.true

pub returns : goal.returns
returns c = λ list keeps. grind (arith, common_steps, c.loop-name.invariant list keeps)
