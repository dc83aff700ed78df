-- What is read of a folder.
use Rattle.std.specs.Prelude.{◌≡◌, ◌<◌, ℕ, List, ◌++◌, length, slice_index_or, Option, Some, None}
use Rattle.tree_model.specs.declared.entry.Entry.{Entry}
use Rattle.tree_model.specs.declared.tree.Size.{Size}
use Rattle.tree_model.specs.Path.{inside}
use Rattle.tree_model.specs.Size.{Exceeds, size_of}
use Rattle.tree_model.specs.Tree.{IsTree, entry_at}
use Rattle.outside_traits.specs.Store.{Store}

-- exactly the tree is held under the folder
pub record IsUnder (folder : List ℕ) (tree : List (List ℕ × Entry)) (held : Store) : Type 0 where
  pub is_tree : IsTree tree
  pub entries : (path : List ℕ) → held (inside folder path) ≡ entry_at tree path

-- the tree that is held under the folder; nothing where that exceeds the limit
abbrev pub IsReading : List ℕ → Size → Store → Option (List (List ℕ × Entry)) → Type 0
IsReading folder max held (Some tree) = IsUnder folder tree held × (Exceeds (size_of tree) max → ⊥)
IsReading folder max held None = (tree : List (List ℕ × Entry)) × IsUnder folder tree held × Exceeds (size_of tree) max

-- a tree that holds what the entries hold; nothing where it exceeds the limit
abbrev pub IsWithin : List (List ℕ × Entry) → Size → Option (List (List ℕ × Entry)) → Type 0
IsWithin entries max (Some tree) = IsTree tree × (entry_at tree ≡ entry_at entries) × (Exceeds (size_of tree) max → ⊥)
IsWithin entries max None = (tree : List (List ℕ × Entry)) × IsTree tree × (entry_at tree ≡ entry_at entries) × Exceeds (size_of tree) max

-- the entries are what the first n paths hold, by what stands behind the prefix
pub record Stands (prefix : List ℕ) (paths : List (List ℕ)) (n : ℕ) (held : Store) (entries : List (List ℕ × Entry)) : Type 0 where
  pub count : length entries ≡ n
  pub paths_are : (k : ℕ) (d : List ℕ × Entry) (p : List ℕ) → k < n → slice_index_or paths k p ≡ prefix ++ (slice_index_or entries k d).0
  pub are_held : (k : ℕ) (d : List ℕ × Entry) (p : List ℕ) → k < n → held (slice_index_or paths k p) ≡ Some (slice_index_or entries k d).1
