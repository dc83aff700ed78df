-- Trees as lists of paths and entries.
use Rattle.std.specs.Prelude.{◌≡◌, ◌<◌, ◌≤◌, ℕ, List, length, Option, option_map, find, All, AllPairs, Contains, IsSome, slice_index_or, if◌then◌else◌}
use Rattle.std.specs.Str.{bytes_eq}
use Rattle.std.specs.Ordering.{nat_cmp}
use Rattle.std.specs.Cmp.Lexicographic.{slice_cmp}
use Rattle.std.specs.declared.cmp.Ordering.TheVariants.{Less}
use Rattle.tree_model.specs.declared.entry.Entry.{Entry}
use Rattle.tree_model.specs.Path.{IsClean, IsBelow, IsBefore, IsUpTo, BeginsWith}

-- What each path holds. A tree is a finite map from clean paths to entries in which no path is a
-- proper ancestor of another (own rule); this is that map.
abbrev pub entry_at : List (List ℕ × Entry) → List ℕ → Option Entry
entry_at list path = option_map (λ e. e.1) (find (λ e. bytes_eq e.0 path) list)

-- The first path comes before the second in the order of bytes, and neither lies below the other.
pub record Precedes (a b : List ℕ) : Type 0 where
  pub before : slice_cmp nat_cmp a b ≡ Less
  pub not_above : IsBelow a b → ⊥
  pub not_below : IsBelow b a → ⊥

-- A list that is a tree: clean paths, strictly ascending by their bytes, none a proper ancestor of another.
-- So each tree is one list only.
pub record IsTree (list : List (List ℕ × Entry)) : Type 0 where
  pub clean : All (λ e. IsClean e.0) list
  pub ordered : AllPairs (λ a b. Precedes a.0 b.0) list

-- The paths of the list ascend strictly by their bytes.
abbrev pub IsAscending : List (List ℕ × Entry) → Type 0
IsAscending list = AllPairs (λ a b. IsBefore a.0 b.0) list

-- The paths of the list do not fall by their bytes.
abbrev pub IsSortedByPath : List (List ℕ × Entry) → Type 0
IsSortedByPath list = AllPairs (λ a b. IsUpTo a.0 b.0) list

-- The map with this at one path, and all other paths as before.
abbrev pub put : (List ℕ → Option Entry) → List ℕ → Option Entry → List ℕ → Option Entry
put held path x = λ q. if bytes_eq path q then x else held q

-- Nothing that is held lies above the path or below it; the path itself may be held.
pub record HasRoom (held : List ℕ → Option Entry) (path : List ℕ) : Type 0 where
  pub above : (q : List ℕ) → IsSome (held q) → IsBelow q path → ⊥
  pub below : (q : List ℕ) → IsSome (held q) → IsBelow path q → ⊥

-- Just the held paths that begin with the prefix, each once, ascending by their bytes.
pub record IsListing (prefix : List ℕ) (held : List ℕ → Option Entry) (paths : List (List ℕ)) : Type 0 where
  pub ascending : AllPairs IsBefore paths
  pub are_held : (q : List ℕ) → Contains paths q → BeginsWith prefix q × IsSome (held q)
  pub all : (q : List ℕ) → BeginsWith prefix q → IsSome (held q) → Contains paths q

-- The path stands at the place.
abbrev pub StandsAt : List (List ℕ × Entry) → List ℕ → ℕ → Type 0
StandsAt list path place = (place < length list) × ((d : List ℕ × Entry) → (slice_index_or list place d).0 ≡ path)

-- The place in ascending entries at which a path that they don't have is to be put.
pub record IsGap (list : List (List ℕ × Entry)) (path : List ℕ) (place : ℕ) : Type 0 where
  pub within : place ≤ length list
  pub before : (k : ℕ) (d : List ℕ × Entry) → k < place → IsBefore (slice_index_or list k d).0 path
  pub after : (k : ℕ) (d : List ℕ × Entry) → place ≤ k → k < length list → IsBefore path (slice_index_or list k d).0

-- The place in ascending entries behind just those that come before the prefix.
pub record IsStart (list : List (List ℕ × Entry)) (prefix : List ℕ) (place : ℕ) : Type 0 where
  pub within : place ≤ length list
  pub before : (k : ℕ) (d : List ℕ × Entry) → k < place → IsBefore (slice_index_or list k d).0 prefix
  pub after : (k : ℕ) (d : List ℕ × Entry) → place ≤ k → k < length list → IsUpTo prefix (slice_index_or list k d).0
