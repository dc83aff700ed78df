use Rattle.std.proofs.Common.{◌≡◌}
use Rattle.recipe_lint.proofs.askers.told.Given as goal

-- the layers are as they were, and didn't fail
abbrev pub invariant-loop-ask : goal.invariant-loop-ask
invariant-loop-ask g l = record {
  same : g.L.Layers.files l.layers.inner ≡ g.L.Layers.files l.fn.layers.inner;
  faults : g.L.Layers.faults l.layers.inner ≡ g.L.Layers.faults l.fn.layers.inner;
}
