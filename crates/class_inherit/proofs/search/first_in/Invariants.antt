use Rattle.std.proofs.Common.{◌≡◌, drop}
use Rattle.load_model.specs.Paths.{paths_in}
use Rattle.load_model.specs.Loading.{sources_of, first_found}
use Rattle.class_inherit.proofs.search.first_in.Given as goal

-- no folder so far has the file
abbrev pub invariant-loop-folder : goal.invariant-loop-folder
invariant-loop-folder g l = record {
  same : g.L.Layers.files l.layers ≡ g.L.Layers.files l.fn.layers;
  faults : g.L.Layers.faults l.layers ≡ g.L.Layers.faults l.fn.layers;
  found : g.L.Layers.tells → first_found (sources_of (g.L.Layers.files l.fn.layers)) l.kind (paths_in (drop l.folder-index l.folders) l.word) ≡ first_found (sources_of (g.L.Layers.files l.fn.layers)) l.kind (paths_in l.folders l.word);
}
