use Rattle.std.proofs.Common.{◌<◌, length}
use Rattle.task_graph.proofs.Turning.{IsLeastBefore}
use Rattle.task_graph.proofs.cycle.least_of.Given as goal

abbrev pub invariant-loop-place : goal.invariant-loop-place
invariant-loop-place l = record {
  within : l.least < length l.ids;
  least : IsLeastBefore l.ids l.place l.least;
}
