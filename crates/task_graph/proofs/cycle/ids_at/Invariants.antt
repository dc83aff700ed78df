use Rattle.std.proofs.Common.{take}
use Rattle.std.specs.List.{AllZip}
use Rattle.task_graph.specs.Turn.{IsIdAt}
use Rattle.task_graph.proofs.cycle.ids_at.Given as goal

abbrev pub invariant-loop-place : goal.invariant-loop-place
invariant-loop-place l = AllZip (IsIdAt l.facts l.table l.tasks) (take l.place-index l.places) l.ids.items
