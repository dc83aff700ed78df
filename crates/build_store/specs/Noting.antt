-- Which items are noted as a publication is opened, where none of the folders is read: a removal for each path that is listed and that the
-- tree hasn't, and behind them a writing for each entry of the tree. (A step then writes just what isn't held.)
use Rattle.std.specs.Prelude.{◌≡◌, ◌⊎◌, ℕ, List, [], ◌∷◌, ◌++◌, map, Option, Some, None, IsSome}
use Rattle.tree_model.specs.declared.entry.Entry.{Entry}
use Rattle.tree_model.specs.declared.hash.Hash.{Hash}
use Rattle.tree_model.specs.Path.{inside}
use Rattle.tree_model.specs.Tree.{entry_at}
use Rattle.outside_traits.specs.Store.{Store}
use Rattle.meta_model.specs.CleanBuild.{Entries}
use Rattle.store_model.specs.Available.{object_folder}
use Rattle.store_model.specs.Publication.{work_at, Publication}
use Rattle.build_store.specs.Items.{Item, removal, writing}

-- a removal, where the tree hasn't the path
abbrev pub removal_if : List ℕ → Option Entry → List Item → List Item
removal_if path None items = removal path ∷ items
removal_if path (Some entry) items = items

abbrev pub removals : List ℕ → Entries → List (List ℕ) → List Item
removals folder tree [] = []
removals folder tree (path ∷ found) = removal_if (inside folder path) (entry_at tree path) (removals folder tree found)

abbrev pub writings : List ℕ → Entries → List Item
writings folder tree = map (λ e. writing (inside folder e.0) e.1) tree

-- the path is listed
abbrev pub IsListed : List (List ℕ) → List ℕ → Type 0
IsListed [] path = ⊥
IsListed (one ∷ found) path = (one ≡ path) ⊎ IsListed found path

-- what is held under the folder is listed
abbrev pub AreListed : List ℕ → List (List ℕ) → Store → Type 0
AreListed folder found held = (path : List ℕ) → IsSome (held (inside folder path)) → IsListed found path

-- the items in the object, if there is one, and those in the work folder
abbrev pub items_with : Publication → List (List ℕ) → Option Hash → List Item
items_with p shared None = writings (work_at p.folder) p.tree
items_with p shared (Some unihash) = removals (object_folder unihash) p.tree shared ++ (writings (work_at p.folder) p.tree ++ writings (object_folder unihash) p.tree)

-- the items of a publication, by what is listed of its two folders
abbrev pub items_for : Publication → List (List ℕ) → List (List ℕ) → List Item
items_for p found shared = removals (work_at p.folder) p.tree found ++ items_with p shared p.object

-- just what is held under the folder
pub record AreFound (folder : List ℕ) (found : List (List ℕ)) (held : Store) : Type 0 where
  pub listed : AreListed folder found held
  pub are_held : (path : List ℕ) → IsListed found path → IsSome (held (inside folder path))

-- the items are those of the publication, by just what is held in its two folders
pub record AreNoted (p : Publication) (items : List Item) (held : Store) : Type 0 where
  pub found : List (List ℕ)
  pub shared : List (List ℕ)
  pub work : AreFound (work_at p.folder) found held
  pub objects : (unihash : Hash) → p.object ≡ Some unihash → AreFound (object_folder unihash) shared held
  pub are : items ≡ items_for p found shared
