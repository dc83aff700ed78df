use Rattle.std.proofs.Common.{◌≡◌, ◌∙◌, sym, ap}
use Rattle.outside_traits.proofs.Runs.{passes_so}
use Rattle.store_model.specs.Publication.{work_at}
use Rattle.build_store.specs.OpenOnes.{MakesRoom}
use Rattle.build_store.proofs.OpeningRuns.{room_by_work, room_then}
use Rattle.build_store.proofs.opening.make_way.Goals as goal

pub returns-in_err-clear_above-clause-way : goal.returns-in_err-clear_above-clause-way
returns-in_err-clear_above-clause-way g c told = λ p folder object.
    let at : c.as_str.result.now ≡ work_at p.folder = c.as_str.ensures ∙ c.in_ok-work.ensures ∙ ap work_at (sym folder) in
    let held = (g.D.Disk.story c.args.disk.now).held in
    passes_so (MakesRoom p held) (rw at at (c.clear_above.ensures.way told)) (λ i j way. room_by_work p held i j way)

pub returns-clause-way : goal.returns-clause-way
returns-clause-way g c told = λ p folder object.
    let at : c.as_str.result.now ≡ work_at p.folder = c.as_str.ensures ∙ c.in_ok-work.ensures ∙ ap work_at (sym folder) in
    let held = (g.D.Disk.story c.args.disk.now).held in
    room_then p (passes_so (MakesRoom p held) (rw at at (c.clear_above.ensures.way told)) (λ i j way. room_by_work p held i j way)) (c.make_way_of_object.ensures.way told p object)
