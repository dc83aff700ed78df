-- One tree laid over another.
use Rattle.std.specs.Prelude.{◌≡◌, ◌⊎◌, ◌||◌, ℕ, Bool, not, List, [], ◌∷◌, ◌++◌, IsSome, is_some, All, Any, filter, if◌then◌else◌}
use Rattle.std.specs.List.{list_all}
use Rattle.std.specs.Ordering.{nat_cmp, is_lt}
use Rattle.std.specs.Str.{bytes_eq}
use Rattle.std.specs.Cmp.Lexicographic.{slice_cmp}
use Rattle.tree_model.specs.declared.entry.Entry.{Entry}
use Rattle.tree_model.specs.Path.{IsBelow, IsAtOrBelow}
use Rattle.tree_model.specs.Tree.{IsTree, entry_at}
use Rattle.tree_model.specs.Folder.{rest_of}

-- The paths are the same, or one lies below the other: no tree holds both as different entries.
abbrev pub Meets : List ℕ → List ℕ → Type 0
Meets a b = IsAtOrBelow a b ⊎ IsBelow b a

-- No path of the tree meets this one.
abbrev pub IsFree : List (List ℕ × Entry) → List ℕ → Type 0
IsFree tree path = All (λ e. Meets path e.0 → ⊥) tree

-- A path of the tree meets this one.
abbrev pub IsMet : List (List ℕ × Entry) → List ℕ → Type 0
IsMet tree path = Any (λ e. Meets path e.0) tree

-- The later tree over the earlier one: a tree that has all entries of the later one, and those of the earlier one
-- whose path no path of the later one meets (own rule). It has nothing else: what it holds at a path that a
-- later one meets is a later entry, since it is a tree.
pub record IsOverlay (earlier later both : List (List ℕ × Entry)) : Type 0 where
  pub tree : IsTree both
  pub laid : (path : List ℕ) → IsSome (entry_at later path) → entry_at both path ≡ entry_at later path
  pub left : (path : List ℕ) → IsFree later path → entry_at both path ≡ entry_at earlier path

-- No path of the later tree lies below one of the earlier: no file or link of the earlier one has to become a folder.
abbrev pub KeepsFiles : List (List ℕ × Entry) → List (List ℕ × Entry) → Type 0
KeepsFiles earlier later = All (λ e. All (λ l. IsBelow e.0 l.0 → ⊥) later) earlier

-- ---- the same as a function

-- whether the second path lies somewhere below the first
abbrev pub is_below : List ℕ → List ℕ → Bool
is_below folder path = is_some (rest_of (folder ++ 47 ∷ []) path)

-- whether the paths are the same, or one lies below the other
abbrev pub meet : List ℕ → List ℕ → Bool
meet a b = bytes_eq b a || (is_below a b || is_below b a)

-- whether no path of the tree meets this one
abbrev pub is_free : List (List ℕ × Entry) → List ℕ → Bool
is_free tree path = list_all (λ e. not (meet path e.0)) tree

-- an entry at its place in the order of the paths' bytes
abbrev pub in_place : List ℕ × Entry → List (List ℕ × Entry) → List (List ℕ × Entry)
in_place e [] = e ∷ []
in_place e (x ∷ xs) = if is_lt (slice_cmp nat_cmp e.0 x.0) then e ∷ (x ∷ xs) else x ∷ in_place e xs

abbrev pub all_in_place : List (List ℕ × Entry) → List (List ℕ × Entry) → List (List ℕ × Entry)
all_in_place [] tree = tree
all_in_place (e ∷ es) tree = in_place e (all_in_place es tree)

-- The later tree over the earlier one: its entries, and those of the earlier one whose path none of its paths meets, each
-- at its place. Of two trees that is the one tree which `IsOverlay` names.
unfoldable pub overlaid : List (List ℕ × Entry) → List (List ℕ × Entry) → List (List ℕ × Entry)
overlaid earlier later = all_in_place (filter (λ e. is_free later e.0) earlier) later
