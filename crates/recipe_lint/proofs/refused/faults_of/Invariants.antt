use Rattle.std.proofs.Common.{◌≡◌}
use Rattle.recipe_lint.proofs.refused.faults_of.Given as goal

-- the layers are as they were
abbrev pub invariant-loop-some : goal.invariant-loop-some
invariant-loop-some g l = g.L.Layers.files l.layers ≡ g.L.Layers.files l.fn.layers
