use Rattle.std.proofs.Common.{◌≡◌, drop}
use Rattle.load_model.specs.Loading.{sources_of}
use Rattle.load_model.specs.Layers.{layers_after}
use Rattle.layer_conf.proofs.reads.layers_after.Given as goal

-- the layers so far are read
abbrev pub invariant-loop-word : goal.invariant-loop-word
invariant-loop-word g l = record {
  same : g.L.Layers.files l.layers ≡ g.L.Layers.files l.fn.layers;
  faults : g.L.Layers.faults l.layers ≡ g.L.Layers.faults l.fn.layers;
  read : g.L.Layers.tells → layers_after (sources_of (g.L.Layers.files l.fn.layers)) (drop l.word-index l.words) l.reading ≡ layers_after (sources_of (g.L.Layers.files l.fn.layers)) l.words l.fn.first;
}
