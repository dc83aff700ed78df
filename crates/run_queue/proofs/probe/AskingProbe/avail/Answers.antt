use Rattle.std.proofs.Common.{◌≡◌, ◌∙◌, sym, ap, refl, slice_get, Some, inr}
use Rattle.std.proofs.lemmas.Option.{same_Some}
use Rattle.meta_model.specs.declared.plan.Plan.{Plan}
use Rattle.store_model.specs.Spelling.{name_of, signature_bytes}
use Rattle.run_queue.proofs.Asked.{asks_met, clash_unknown, told_here}
use Rattle.run_queue.proofs.Causing.{asked_name}
use Rattle.run_queue.proofs.probe.AskingProbe.avail.Goals as goal

pub returns-in-Ok-clause-told : goal.returns-in-Ok-clause-told
returns-in-Ok-clause-told g c = inr (λ task at.
    let v = c.args.self.now.store.now in
    let own : slice_get c.args.self.now.plan.now.tasks c.args.task ≡ Some c.task_at-own.result.now = ap (λ (p : Plan). slice_get p.tasks c.args.task) c.requires.plan ∙ c.task_at-own.ensures in
    told_here g.D.Disk.tells (g.D.Disk.story v.disk).held v.rows c.args.self.now.setscene c.task_at-own.result.now task c.args.sig.now _ c.in-Ok.there (sym c.answered.ensures ∙ c.in-None-answered.is) (same_Some c.task_at-own.result.now task (sym own ∙ at)) c.in-Ok.ensures.found)

pub returns-in-Err-clause-stays : goal.returns-in-Err-clause-stays
returns-in-Err-clause-stays g c =
    let v = c.args.self.now.store.now in
    let w = c.available.new.self in
    let plan = c.args.self.now.plan.now in
    let why = clash_unknown plan v.rows (name_of c.args.sig.now) (signature_bytes c.args.sig.now) (g.D.Disk.faults v.disk) (g.D.Disk.faults w.disk) c.in-Err.fault (asked_name plan v.rows c.args.task c.args.sig.now c.requires.sig) c.in-Err.ensures.refused c.in-Err.ensures.cause in
    (refl, refl, refl, refl, refl, asks_met plan g.D.Disk.tells g.D.Disk.story g.D.Disk.faults v w c.args.self.now.fault.now c.keep.new.kept c.in-Err.fault c.keep.result c.in-Err.ensures.same c.in-Err.ensures.images c.in-None.is why c.keep.ensures)
