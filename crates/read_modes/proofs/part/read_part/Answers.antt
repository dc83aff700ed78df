use Rattle.std.proofs.Common.{◌≡◌, ℕ, List, [], Ok}
use Rattle.std.proofs.lemmas.Result.{IfOk-weaker, IfErr-weaker}
use Rattle.outside_traits.specs.Store.{IsListing}
use Rattle.load_model.specs.Loading.{sources_of}
use Rattle.layer_conf.specs.Config.{config_meant}
use Rattle.project_reading.specs.Answered.{IsRefusedAs}
use Rattle.multi_config.specs.Shown.{part_values, values_under}
use Rattle.read_modes.proofs.PartValues.{named_as, part_then, part_then_not}
use Rattle.read_modes.proofs.part.read_part.Goals as goal

pub returns-in-Ok-clause-ok : goal.returns-in-Ok-clause-ok
returns-in-Ok-clause-ok g c =
    let files = g.L.Layers.files c.args.layers.now in
    let later = g.L.Layers.files c.named_config.new.layers in
    let made = config_meant c.in-Ok.config in
    IfOk-weaker c.values_under.result (λ text. g.L.Layers.tells → values_under (sources_of later) c.as_slice.result.now made ≡ Ok text)
    (λ text. g.L.Layers.tells → (paths : List (List ℕ)) → IsListing [] files paths → part_values (sources_of files) paths c.args.part.now ≡ Ok text)
    (λ text e told paths listing. part_then files later paths c.args.part.now c.as_str.result.now c.as_slice.result.now made text c.as_str.ensures c.as_slice.ensures c.in-Ok.ensures.same (c.in-Ok.ensures.ok told paths listing) (e told))
    c.values_under.ensures.ok

pub returns-in-Ok-clause-err : goal.returns-in-Ok-clause-err
returns-in-Ok-clause-err g c =
    let files = g.L.Layers.files c.args.layers.now in
    let later = g.L.Layers.files c.named_config.new.layers in
    let made = config_meant c.in-Ok.config in
    IfErr-weaker c.values_under.result (λ status. g.L.Layers.tells → IsRefusedAs status (values_under (sources_of later) c.as_slice.result.now made))
    (λ status. g.L.Layers.tells → (paths : List (List ℕ)) → IsListing [] files paths → IsRefusedAs status (part_values (sources_of files) paths c.args.part.now))
    (λ status h told paths listing. part_then_not files later paths c.args.part.now c.as_str.result.now c.as_slice.result.now made status c.as_str.ensures c.as_slice.ensures c.in-Ok.ensures.same (c.in-Ok.ensures.ok told paths listing) (h told))
    c.values_under.ensures.err

pub returns-in-Err-clause-err : goal.returns-in-Err-clause-err
returns-in-Err-clause-err g c = λ told paths listing.
    named_as (g.L.Layers.files c.args.layers.now) paths c.args.part.now c.as_str.result.now c.in-Err.status c.as_str.ensures (c.in-Err.ensures.err told paths listing)
