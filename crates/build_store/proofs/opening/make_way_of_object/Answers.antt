use Rattle.std.proofs.Common.{◌≡◌, ◌∙◌}
use Rattle.outside_traits.proofs.Runs.{passes_so}
use Rattle.store_model.specs.Available.{object_folder}
use Rattle.build_store.specs.OpenOnes.{MakesRoom}
use Rattle.build_store.proofs.OpeningRuns.{room_by_object}
use Rattle.build_store.proofs.opening.make_way_of_object.Goals as goal

pub returns-in_ok-folder-in-Some-clause-way : goal.returns-in_ok-folder-in-Some-clause-way
returns-in_ok-folder-in-Some-clause-way g c told = λ p e.
    let at : c.as_str.result.now ≡ object_folder c.in-Some.unihash = c.as_str.ensures ∙ c.in_ok-folder-in-Some.ensures in
    let held = (g.D.Disk.story c.args.disk.now).held in
    passes_so (MakesRoom p held) (rw at at (c.clear_above.ensures.way told)) (λ i j way. room_by_object p c.in-Some.unihash (e ∙ c.in-Some.is) held i j way)
