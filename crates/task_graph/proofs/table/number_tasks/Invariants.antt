use Rattle.std.proofs.Common.{◌≡◌, ◌+◌, take, length}
use Rattle.std.specs.HashMap.{get_by_text}
use Rattle.task_graph.specs.Table.{HasTasks, KeepsSpots}
use Rattle.task_graph.proofs.table.number_tasks.Given as goal

abbrev pub invariant-loop-place : goal.invariant-loop-place
invariant-loop-place l = record {
  tasks : HasTasks l.spots.items l.recipe (length l.fn.spots.items) (take l.place l.tasks) (get_by_text l.map);
  kept : KeepsSpots l.fn.spots.items l.spots.items;
  long : length l.spots.items ≡ length l.fn.spots.items + l.place;
}
