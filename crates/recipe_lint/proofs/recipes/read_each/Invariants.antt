use Rattle.std.proofs.Common.{◌≡◌}
use Rattle.recipe_lint.proofs.recipes.read_each.Given as goal

-- the layers are as they were, and didn't fail
abbrev pub invariant-loop-recipe : goal.invariant-loop-recipe
invariant-loop-recipe g l = record {
  same : g.L.Layers.files l.layers.inner ≡ g.L.Layers.files l.fn.layers.inner;
  faults : g.L.Layers.faults l.layers.inner ≡ g.L.Layers.faults l.fn.layers.inner;
}
