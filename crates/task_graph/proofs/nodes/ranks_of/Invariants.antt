use Rattle.std.proofs.Common.{◌≡◌, ◌<◌, ℕ, length, Some, slice_get}
use Rattle.task_graph.specs.declared.order.Draft.{Draft}
use Rattle.task_graph.proofs.nodes.ranks_of.Given as goal

abbrev pub invariant-loop-number : goal.invariant-loop-number
invariant-loop-number l = record {
  long : length l.ranks.items ≡ length l.drafts;
  each : (k : ℕ) (draft : Draft) → k < l.number → slice_get l.drafts k ≡ Some draft → slice_get l.ranks.items draft.place ≡ Some k;
}
