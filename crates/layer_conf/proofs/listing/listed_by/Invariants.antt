use Rattle.std.proofs.Common.{◌≡◌, take}
use Rattle.layer_conf.specs.Globs.{IsFound}
use Rattle.layer_conf.proofs.listing.listed_by.Given as goal

-- what begins with the heads so far is listed
abbrev pub invariant-loop-head : goal.invariant-loop-head
invariant-loop-head g l = record {
  same : g.L.Layers.files l.layers ≡ g.L.Layers.files l.fn.layers;
  faults : g.L.Layers.faults l.layers ≡ g.L.Layers.faults l.fn.layers;
  found : g.L.Layers.tells → IsFound (take l.head-index l.heads) (g.L.Layers.files l.fn.layers) l.found;
}
