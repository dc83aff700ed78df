use Rattle.std.proofs.Common.{◌≡◌, take, map}
use Rattle.meta_model.specs.Layout.{overlaid_all}
use Rattle.task_worker.specs.Work.{part_needed}
use Rattle.task_worker.proofs.laying.laid_own.Given as goal

abbrev pub invariant-loop-part : goal.invariant-loop-part
invariant-loop-part l = l.tree ≡ overlaid_all (map (λ p. (part_needed p).output) (take l.part-index l.parts))
