use Rattle.build_store.proofs.Restored.{object_is, back_run, back_published, back_same}
use Rattle.std.proofs.Common.{None, ◌∙◌, ap}
use Rattle.store_model.specs.Available.{task_folder}
use Rattle.build_store.proofs.AroundRestoring.{around_behind, around_same}
use Rattle.build_store.proofs.Righting.{copied_back, copied_same}
use Rattle.build_store.proofs.restoring.restore_by.Goals as goal

pub returns-in_err-put_task-in-Ok-Some-clause-images : goal.returns-in_err-put_task-in-Ok-Some-clause-images
returns-in_err-put_task-in-Ok-Some-clause-images g c told f at has =
    let object = object_is c.args.row.now (g.D.Disk.story c.args.disk.now).held c.in-Ok-Some.tree (rw c.in-Ok-Some.field-0-is at (c.in-Ok-Some.ensures.found told)) in
    back_run c.args.task.now c.args.row.now (g.D.Disk.story c.args.disk.now) (g.D.Disk.story c.object_of.new.disk) (g.D.Disk.story c.put_task.new.disk) f at has (c.object_of.ensures.others told) c.in-Ok-Some.tree object (c.put_task.ensures.others told)

pub returns-in_ok-put_task-in-Ok-Some-clause-images : goal.returns-in_ok-put_task-in-Ok-Some-clause-images
returns-in_ok-put_task-in-Ok-Some-clause-images g c told f at has =
    let object = object_is c.args.row.now (g.D.Disk.story c.args.disk.now).held c.in-Ok-Some.tree (rw c.in-Ok-Some.field-0-is at (c.in-Ok-Some.ensures.found told)) in
    back_run c.args.task.now c.args.row.now (g.D.Disk.story c.args.disk.now) (g.D.Disk.story c.object_of.new.disk) (g.D.Disk.story c.put_task.new.disk) f at has (c.object_of.ensures.others told) c.in-Ok-Some.tree object (c.put_task.ensures.others told)

pub returns-in_ok-put_task-in-Ok-Some-clause-restored : goal.returns-in_ok-put_task-in-Ok-Some-clause-restored
returns-in_ok-put_task-in-Ok-Some-clause-restored g c told f at has =
    let object = object_is c.args.row.now (g.D.Disk.story c.args.disk.now).held c.in-Ok-Some.tree (rw c.in-Ok-Some.field-0-is at (c.in-Ok-Some.ensures.found told)) in
    back_published c.args.task.now c.args.row.now (g.D.Disk.story c.args.disk.now) (g.D.Disk.story c.object_of.new.disk) (g.D.Disk.story c.put_task.new.disk) f at has (c.object_of.ensures.others told) c.in-Ok-Some.tree object (c.in_ok-put_task-in-Ok-Some.ensures.published told)

pub returns-in-Ok-None-clause-images : goal.returns-in-Ok-None-clause-images
returns-in-Ok-None-clause-images g c told f at has = back_same c.args.task.now c.args.row.now (g.D.Disk.story c.args.disk.now) (g.D.Disk.story c.object_of.new.disk) f (c.object_of.ensures.others told)

pub returns-in_err-put_task-in-Ok-Some-clause-round : goal.returns-in_err-put_task-in-Ok-Some-clause-round
returns-in_err-put_task-in-Ok-Some-clause-round g c told =
    around_behind (task_folder c.args.task.now) (c.object_of.ensures.others told) (c.put_task.ensures.round told)

pub returns-in_ok-put_task-in-Ok-Some-clause-round : goal.returns-in_ok-put_task-in-Ok-Some-clause-round
returns-in_ok-put_task-in-Ok-Some-clause-round g c told =
    around_behind (task_folder c.args.task.now) (c.object_of.ensures.others told) (c.put_task.ensures.round told)

pub returns-in-Ok-None-clause-round : goal.returns-in-Ok-None-clause-round
returns-in-Ok-None-clause-round g c told = around_same (task_folder c.args.task.now) (c.object_of.ensures.others told)

pub returns-in_ok-put_task-in-Ok-Some-clause-swept : goal.returns-in_ok-put_task-in-Ok-Some-clause-swept
returns-in_ok-put_task-in-Ok-Some-clause-swept g c told q below none = c.in_ok-put_task-in-Ok-Some.ensures.swept told q below (ap (λ h. h q) (c.object_of.ensures.others told).held ∙ none)

pub returns-in-Ok-None-clause-swept : goal.returns-in-Ok-None-clause-swept
returns-in-Ok-None-clause-swept g c told q below none = ap (λ h. h q) (c.object_of.ensures.others told).held ∙ none

pub returns-in_err-put_task-in-Ok-Some-clause-right : goal.returns-in_err-put_task-in-Ok-Some-clause-right
returns-in_err-put_task-in-Ok-Some-clause-right g c told =
    let object = object_is c.args.row.now (g.D.Disk.story c.args.disk.now).held c.in-Ok-Some.tree (rw c.in-Ok-Some.field-0-is at (c.in-Ok-Some.ensures.found told)) in
    copied_back (task_folder c.args.task.now) c.args.row.now.unihash None c.in-Ok-Some.tree object.holds.entries (c.object_of.ensures.others told) (c.put_task.ensures.right told)

pub returns-in_ok-put_task-in-Ok-Some-clause-right : goal.returns-in_ok-put_task-in-Ok-Some-clause-right
returns-in_ok-put_task-in-Ok-Some-clause-right g c told =
    let object = object_is c.args.row.now (g.D.Disk.story c.args.disk.now).held c.in-Ok-Some.tree (rw c.in-Ok-Some.field-0-is at (c.in-Ok-Some.ensures.found told)) in
    copied_back (task_folder c.args.task.now) c.args.row.now.unihash None c.in-Ok-Some.tree object.holds.entries (c.object_of.ensures.others told) (c.put_task.ensures.right told)

pub returns-in-Ok-None-clause-right : goal.returns-in-Ok-None-clause-right
returns-in-Ok-None-clause-right g c told = copied_same (task_folder c.args.task.now) c.args.row.now.unihash (c.object_of.ensures.others told)

pub returns-in-Err-Failed-clause-round : goal.returns-in-Err-Failed-clause-round
returns-in-Err-Failed-clause-round g c told = around_same (task_folder c.args.task.now) (c.object_of.ensures.others told)

pub returns-in-Err-Memory-clause-round : goal.returns-in-Err-Memory-clause-round
returns-in-Err-Memory-clause-round g c told = around_same (task_folder c.args.task.now) (c.object_of.ensures.others told)
