use Rattle.std.proofs.Common.{take}
use Rattle.std.specs.List.{AllZip}
use Rattle.meta_model.specs.GraphRefusal.{target_task}
use Rattle.task_graph.specs.Context.{IsNumberOf}
use Rattle.task_graph.proofs.reach.numbers_of.Given as goal

abbrev pub invariant-loop-target : goal.invariant-loop-target
invariant-loop-target l = AllZip (λ target u. IsNumberOf l.context.table (target_task l.facts target) u) (take l.target-index l.targets) l.numbers.items
