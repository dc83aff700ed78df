use Rattle.std.proofs.Common.{◌≡◌, ◌<◌, ◌++◌, All, length}
use Rattle.std.specs.List.{AllZip}
use Rattle.std.specs.Vec.Iter.{into_iter_items, into_iter_len}
use Rattle.task_graph.specs.Order.{IsNodeOf}
use Rattle.task_graph.proofs.nodes.nodes_of.Given as goal

abbrev pub invariant-loop-draft : goal.invariant-loop-draft
invariant-loop-draft l = record {
  drafts : l.yielded ++ into_iter_items l.draft-iterator ≡ into_iter_items l.initial.draft-iterator;
  count : into_iter_len l.draft-iterator ≡ length (into_iter_items l.draft-iterator);
  placed : All (λ draft. draft.place < length l.edges) (into_iter_items l.draft-iterator);
  nodes : AllZip (IsNodeOf l.ranks l.edges) l.yielded l.nodes;
}
