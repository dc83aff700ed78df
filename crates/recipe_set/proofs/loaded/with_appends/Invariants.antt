use Rattle.std.proofs.Common.{◌≡◌, drop}
use Rattle.load_model.specs.Loading.{sources_of}
use Rattle.load_model.specs.Recipes.{appended}
use Rattle.recipe_set.proofs.loaded.with_appends.Given as goal

-- the appends so far are read
abbrev pub invariant-loop-append : goal.invariant-loop-append
invariant-loop-append g l = record {
  same : g.L.Layers.files l.layers ≡ g.L.Layers.files l.fn.layers;
  faults : g.L.Layers.faults l.layers ≡ g.L.Layers.faults l.fn.layers;
  read : g.L.Layers.tells → appended (sources_of (g.L.Layers.files l.fn.layers)) (drop l.append-index l.appends) l.reading ≡ appended (sources_of (g.L.Layers.files l.fn.layers)) l.appends l.fn.first;
}
