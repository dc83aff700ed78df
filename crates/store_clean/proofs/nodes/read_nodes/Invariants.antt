use Rattle.std.proofs.Common.{◌≡◌, take}
use Rattle.std.specs.List.{AllByRecursion}
use Rattle.outside_traits.specs.Passes.{Passes, Same}
use Rattle.store_model.specs.Readable.{IsHeld}
use Rattle.store_clean.specs.Steps.{AreNodesBy, IsNode, IsTitled}
use Rattle.store_clean.proofs.nodes.read_nodes.Given as goal

abbrev pub invariant-loop-place : goal.invariant-loop-place
invariant-loop-place g l = record {
  faults : g.D.Disk.faults l.disk ≡ g.D.Disk.faults l.fn.disk;
  run : g.D.Disk.tells → Passes (g.D.Disk.story l.fn.disk) (g.D.Disk.story l.disk) Same;
  titled : AreNodesBy IsTitled (take l.place l.index) l.nodes.items;
  nodes : g.D.Disk.tells → AllByRecursion (IsHeld (g.D.Disk.story l.fn.disk).held) l.index → AreNodesBy IsNode (take l.place l.index) l.nodes.items;
}
