use Rattle.std.proofs.Common.{◌≡◌, All, map}
use Rattle.std.specs.List.{range_with_len}
use Rattle.task_graph.specs.Order.{IsDraft, place_of}
use Rattle.task_graph.proofs.order.drafts_of.Given as goal

abbrev pub invariant-loop-place : goal.invariant-loop-place
invariant-loop-place l = record {
  each : All (IsDraft l.facts l.table l.tasks l.depths) l.drafts.items;
  places : map place_of l.drafts.items ≡ range_with_len 0 l.place;
}
