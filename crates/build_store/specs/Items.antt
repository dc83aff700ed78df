-- The items of a publication: what is left to be done in its folders.
use Rattle.std.specs.Prelude.{◌≡◌, ◌⊎◌, ℕ, List, [], ◌∷◌, Option, Some, None}
use Rattle.std.specs.List.{AllByRecursion}
use Rattle.tree_model.specs.declared.entry.Entry.{Entry}
use Rattle.tree_model.specs.declared.hash.Hash.{Hash}
use Rattle.tree_model.specs.Path.{IsBelow, inside}
use Rattle.tree_model.specs.Tree.{entry_at}
use Rattle.outside_traits.specs.Store.{ChangesAt, IsOpen, Store}
use Rattle.meta_model.specs.CleanBuild.{Entries}
use Rattle.store_model.specs.Available.{object_folder}
use Rattle.store_model.specs.Publication.{work_at, Publication}

-- a path to remove, or an entry to write
pub data Item : Type 0 where
  removal : (path : List ℕ) → Item
  writing : (path : List ℕ) (entry : Entry) → Item

abbrev pub path_of : Item → List ℕ
path_of (removal path) = path
path_of (writing path entry) = path

-- what the item's path holds once it is done
abbrev pub makes : Item → Option Entry
makes (removal path) = None
makes (writing path entry) = Some entry

-- one of the items is for the path
abbrev pub IsDue : List Item → List ℕ → Type 0
IsDue [] q = ⊥
IsDue (item ∷ items) q = (path_of item ≡ q) ⊎ IsDue items q

abbrev pub IsWriting : Item → Type 0
IsWriting (removal path) = ⊥
IsWriting (writing path entry) = Unit {0}

-- behind a writing comes no removal
abbrev pub RemovalsFirst : List Item → Type 0
RemovalsFirst [] = Unit {0}
RemovalsFirst (removal path ∷ items) = RemovalsFirst items
RemovalsFirst (writing path entry ∷ items) = AllByRecursion IsWriting items

-- the path lies in the work folder, or in the folder of the object, if there is one
abbrev pub IsWithin : Publication → List ℕ → Type 0
IsWithin p q = IsBelow (work_at p.folder) q ⊎ ((unihash : Hash) × (p.object ≡ Some unihash) × IsBelow (object_folder unihash) q)

-- Where the item's path lies in the folder, it makes of it what the tree has there.
abbrev pub IsRight : List ℕ → Entries → Item → Type 0
IsRight folder tree item = (path : List ℕ) → path_of item ≡ inside folder path → makes item ≡ entry_at tree path

-- an item of the publication: its path lies in one of the folders, and what it makes is right in both
pub record IsItemOf (p : Publication) (item : Item) : Type 0 where
  pub within : IsWithin p (path_of item)
  pub work : IsRight (work_at p.folder) p.tree item
  pub shared : (unihash : Hash) → p.object ≡ Some unihash → IsRight (object_folder unihash) p.tree item

-- What is held under the folder is the tree, but for the paths for which an item is left; and nothing is held at the folder or above it.
pub record IsLaidBut (folder : List ℕ) (tree : Entries) (left : List Item) (held : Store) : Type 0 where
  pub entries : (path : List ℕ) → (held (inside folder path) ≡ entry_at tree path) ⊎ IsDue left (inside folder path)
  pub outside : IsOpen folder held

-- ---- doing items

-- one item is done
pub record DoesItem (item : Item) (old new : Store) : Type 0 where
  pub changes : ChangesAt (path_of item) old new
  pub made : new (path_of item) ≡ makes item

-- one after the other
abbrev pub Does : List Item → Store → Store → Type 0
Does [] old new = new ≡ old
Does (item ∷ items) old new = (between : Store) × DoesItem item old between × Does items between new
