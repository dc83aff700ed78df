-- The PNs and names so far were seen, and each two tasks so far differ.
use Rattle.target_plan.proofs.Pairs.{AreSeen}
use Rattle.target_plan.proofs.differing.all_differ.Given as goal

abbrev pub invariant-loop-task : goal.invariant-loop-task
invariant-loop-task l = AreSeen l.tasks l.task-index l.seen.keys
