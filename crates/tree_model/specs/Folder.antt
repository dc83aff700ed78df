-- Trees under a folder's name.
use Rattle.std.specs.Prelude.{◌≡◌, ◌<◌, ◌==◌, ℕ, List, [], ◌∷◌, ◌++◌, length, map, slice_index_or, Option, None, Some, option_map, ⊤, if◌then◌else◌}
use Rattle.std.specs.List.{filter_map}
use Rattle.std.specs.Str.{bytes_eq}
use Rattle.tree_model.specs.declared.entry.Entry.{Entry}
use Rattle.tree_model.specs.declared.tree.TreeFault.{TreeFault}
use Rattle.tree_model.specs.declared.tree.TreeFault.TheVariants.{Memory, BadPath}
use Rattle.tree_model.specs.Path.{IsClean, inside}
use Rattle.tree_model.specs.Tree.{IsTree, entry_at}

-- The path with the folder's name and a slash in front; the folder `.` puts nothing in front (own rule).
abbrev pub placed : List ℕ → List ℕ → List ℕ
placed folder path = if bytes_eq folder (46 ∷ []) then path else inside folder path

-- The entries with their paths changed.
abbrev pub renamed : (List ℕ → List ℕ) → List (List ℕ × Entry) → List (List ℕ × Entry)
renamed rename tree = map (λ e. (rename e.0, e.1)) tree

-- What the tree holds under the folder, as a tree without the folder's name.
pub record IsPick (folder : List ℕ) (tree picked : List (List ℕ × Entry)) : Type 0 where
  pub is_tree : IsTree picked
  pub held : (path : List ℕ) → entry_at picked path ≡ entry_at tree (placed folder path)

-- The path is the first changed one, in the order of the entries, that isn't clean.
pub record IsFirstUnclean (rename : List ℕ → List ℕ) (tree : List (List ℕ × Entry)) (path : List ℕ) : Type 0 where
  pub place : ℕ
  pub within : place < length tree
  pub is : (d : List ℕ × Entry) → path ≡ rename (slice_index_or tree place d).0
  pub unclean : IsClean path → ⊥
  pub before : (k : ℕ) (d : List ℕ × Entry) → k < place → IsClean (rename (slice_index_or tree k d).0)

-- What a refusal to change the paths says; want of memory says nothing.
abbrev pub IsRenameRefusal : (List ℕ → List ℕ) → List (List ℕ × Entry) → TreeFault → Type 0
IsRenameRefusal rename tree (BadPath path) = IsFirstUnclean rename tree path
IsRenameRefusal rename tree Memory = ⊤

-- What is left of a text behind a prefix, where it begins with it.
abbrev pub rest_of : List ℕ → List ℕ → Option (List ℕ)
rest_of [] path = Some path
rest_of (x ∷ prefix) [] = None
rest_of (x ∷ prefix) (y ∷ path) = if x == y then rest_of prefix path else None

-- An entry with what is left of its path behind a prefix.
abbrev pub entry_behind : List ℕ → List ℕ × Entry → Option (List ℕ × Entry)
entry_behind prefix e = option_map (λ rest. (rest, e.1)) (rest_of prefix e.0)

-- The entries under the folder, without its name.
abbrev pub entries_below : List ℕ → List (List ℕ × Entry) → List (List ℕ × Entry)
entries_below folder tree = filter_map (entry_behind (folder ++ 47 ∷ [])) tree

-- What the tree holds under the folder, without its name; the folder `.` has all of it. Of a tree that is the one tree
-- which `IsPick` names.
unfoldable pub picked : List ℕ → List (List ℕ × Entry) → List (List ℕ × Entry)
picked folder tree = if bytes_eq folder (46 ∷ []) then tree else entries_below folder tree
