use Rattle.std.proofs.Common.{◌≡◌, length}
use Rattle.std.specs.Ordering.{nat_cmp}
use Rattle.std.specs.Cmp.Lexicographic.{slice_cmp}
use Rattle.load_model.specs.Versions.{weights_of}
use Rattle.recipe_set.proofs.versions.compare_all.Given as goal

-- what is left decides as the whole texts do
abbrev pub invariant-loop-kind : goal.invariant-loop-kind
invariant-loop-kind l = slice_cmp (slice_cmp nat_cmp) (weights_of l.left) (weights_of l.right) ≡ slice_cmp (slice_cmp nat_cmp) (weights_of l.a) (weights_of l.b)

abbrev pub decreases-loop-kind : goal.decreases-loop-kind
decreases-loop-kind l = length l.left
