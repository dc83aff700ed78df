-- How one path stands to another that may cover it.
use Rattle.std.specs.Prelude.{◌≡◌, ◌<◌, ◌≤◌, List, ℕ, length, slice_index}
use Rattle.tree_model.specs.declared.path.Reach.{Reach}
use Rattle.tree_model.specs.declared.path.Reach.TheVariants.{Covered, Longer, Elsewhere}
use Rattle.tree_model.specs.Path.{IsAtOrBelow, BeginsWith}

-- The other path is the path or lies below it; it only begins with the path's bytes; or not even that.
abbrev pub IsReach : List ℕ → List ℕ → Reach → Type 0
IsReach path other Covered = IsAtOrBelow path other
IsReach path other Longer = BeginsWith path other × (IsAtOrBelow path other → ⊥)
IsReach path other Elsewhere = BeginsWith path other → ⊥

-- The texts have so many first bytes in common, and no more.
pub record IsCommon (one other : List ℕ) (n : ℕ) : Type 0 where
  pub within_one : n ≤ length one
  pub within_other : n ≤ length other
  pub same : (k : ℕ) → k < n → slice_index one k ≡ slice_index other k
  pub apart : n < length one → n < length other → slice_index one n ≡ slice_index other n → ⊥
