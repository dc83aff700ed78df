use Rattle.std.proofs.Common.{take}
use Rattle.setscene_plan.specs.Reworks.{PutsAll}
use Rattle.setscene_plan.proofs.work.put_all.Given as goal

abbrev pub invariant-loop-task : goal.invariant-loop-task
invariant-loop-task l = PutsAll (take l.task-index l.tasks) l.fn.dirty.keys l.dirty.keys
