-- Why a list of paths and entries is no tree.
use Rattle.std.specs.Prelude.{◌≡◌, ◌<◌, ◌⊎◌, ⊤, ℕ, List, Any, count_by}
use Rattle.std.specs.Str.{bytes_eq}
use Rattle.tree_model.specs.declared.entry.Entry.{Entry}
use Rattle.tree_model.specs.declared.tree.TreeFault.{TreeFault}
use Rattle.tree_model.specs.declared.tree.TreeFault.TheVariants.{Memory, BadPath}
use Rattle.tree_model.specs.Path.{IsClean, IsBelow, IsUpTo}

-- More than one entry of the list has the path.
abbrev pub StandsTwice : List (List ℕ × Entry) → List ℕ → Type 0
StandsTwice list path = 1 < count_by (λ e. bytes_eq e.0 path) list

-- A path of the list that keeps it from being a tree: it isn't clean, stands twice, or is a proper
-- ancestor of another path of the list (own rule).
pub record IsBadPath (list : List (List ℕ × Entry)) (path : List ℕ) : Type 0 where
  pub stands : Any (λ e. e.0 ≡ path) list
  pub bad : (IsClean path → ⊥) ⊎ (StandsTwice list path ⊎ Any (λ e. IsBelow path e.0) list)

-- The first of the bad paths in the order of bytes.
pub record IsFirstBadPath (list : List (List ℕ × Entry)) (path : List ℕ) : Type 0 where
  pub bad : IsBadPath list path
  pub first : (q : List ℕ) → IsBadPath list q → IsUpTo path q

-- What a refusal of a list says: the first bad path; or that memory was wanting, which says nothing of the list.
abbrev pub IsRefusal : List (List ℕ × Entry) → TreeFault → Type 0
IsRefusal list (BadPath path) = IsFirstBadPath list path
IsRefusal list Memory = ⊤
