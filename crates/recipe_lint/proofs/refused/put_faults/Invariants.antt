use Rattle.std.proofs.Common.{◌≡◌}
use Rattle.recipe_lint.proofs.refused.put_faults.Given as goal

-- the layers are as they were
abbrev pub invariant-loop-recipe : goal.invariant-loop-recipe
invariant-loop-recipe g l = g.L.Layers.files l.layers ≡ g.L.Layers.files l.fn.layers
