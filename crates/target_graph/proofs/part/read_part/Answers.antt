use Rattle.std.proofs.Common.{◌≡◌, ◌∙◌, ap, sym, subst, ℕ, List, [], Ok}
use Rattle.std.proofs.lemmas.Result.{IfOk-weaker, IfErr-weaker}
use Rattle.outside_traits.specs.Store.{IsListing}
use Rattle.load_model.specs.Loading.{sources_of}
use Rattle.layer_conf.specs.Config.{config_meant}
use Rattle.target_graph.proofs.PartRuns.{part_then, part_then_not, named_as}
use Rattle.target_graph.specs.Meaning.{asked_meant}
use Rattle.project_reading.specs.Answered.{IsRefusedAs}
use Rattle.multi_config.specs.Project.{asked_part, asked_under}
use Rattle.target_graph.proofs.part.read_part.Goals as goal

pub returns-in-Ok-clause-ok : goal.returns-in-Ok-clause-ok
returns-in-Ok-clause-ok g c =
    let files = g.L.Layers.files c.args.layers.now in
    let later = g.L.Layers.files c.named_config.new.layers in
    let made = config_meant c.in-Ok.config in
    IfOk-weaker c.asked_under.result (λ a. g.L.Layers.tells → asked_under (sources_of later) c.as_slice.result.now made ≡ Ok (asked_meant a))
    (λ a. g.L.Layers.tells → (paths : List (List ℕ)) → IsListing [] files paths → asked_part (sources_of files) paths c.args.part.now ≡ Ok (asked_meant a))
    (λ a e told paths listing. part_then files later paths c.args.part.now c.as_str.result.now c.as_slice.result.now made (asked_meant a) c.as_str.ensures c.as_slice.ensures c.in-Ok.ensures.same (c.in-Ok.ensures.ok told paths listing) (e told))
    c.asked_under.ensures.ok

pub returns-in-Ok-clause-err : goal.returns-in-Ok-clause-err
returns-in-Ok-clause-err g c =
    let files = g.L.Layers.files c.args.layers.now in
    let later = g.L.Layers.files c.named_config.new.layers in
    let made = config_meant c.in-Ok.config in
    IfErr-weaker c.asked_under.result (λ status. g.L.Layers.tells → IsRefusedAs status (asked_under (sources_of later) c.as_slice.result.now made))
    (λ status. g.L.Layers.tells → (paths : List (List ℕ)) → IsListing [] files paths → IsRefusedAs status (asked_part (sources_of files) paths c.args.part.now))
    (λ status h told paths listing. part_then_not files later paths c.args.part.now c.as_str.result.now c.as_slice.result.now made status c.as_str.ensures c.as_slice.ensures c.in-Ok.ensures.same (c.in-Ok.ensures.ok told paths listing) (h told))
    c.asked_under.ensures.err

pub returns-in-Err-clause-err : goal.returns-in-Err-clause-err
returns-in-Err-clause-err g c = λ told paths listing.
    named_as (g.L.Layers.files c.args.layers.now) paths c.args.part.now c.as_str.result.now c.in-Err.status c.as_str.ensures (c.in-Err.ensures.err told paths listing)
