use Rattle.std.proofs.Common.{◌≡◌, take, length, Some, slice_get}
use Rattle.std.specs.List.{AllZip}
use Rattle.graph_walk.specs.Frontier.{IsFrontier, with_nodes, room}
use Rattle.graph_walk.proofs.frontier.Frontier.add_all.Given as goal

abbrev pub invariant-loop-node : goal.invariant-loop-node
invariant-loop-node l = record {
  frontier : IsFrontier l.self.found.items l.self.numbers.items;
  found : l.self.found.items ≡ with_nodes l.fn.self.found.items (take l.node-index l.nodes);
  places : AllZip (λ node place. slice_get l.self.found.items place ≡ Some node) (take l.node-index l.nodes) l.places.items;
  count : length l.self.numbers.items ≡ length l.fn.self.numbers.items;
  room : room l.self.found.items l.self.numbers.items ≡ room l.fn.self.found.items l.fn.self.numbers.items;
}
