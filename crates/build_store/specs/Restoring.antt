-- What restoring a task by a row does.
use Rattle.std.specs.Prelude.{◌≡◌, ◌⊎◌, ℕ, List, Option, Some, None, false}
use Rattle.tree_model.specs.declared.entry.Entry.{Entry}
use Rattle.tree_model.specs.Manifest.{manifest_lines}
use Rattle.tree_model.specs.Tree.{IsTree}
use Rattle.outside_traits.specs.Store.{HoldsTree, Store}
use Rattle.outside_traits.specs.Story.{Story}
use Rattle.outside_traits.specs.Passes.{EachNow, Passes}
use Rattle.meta_model.specs.CleanBuild.{Entries}
use Rattle.meta_model.specs.declared.plan.PlanTask.{PlanTask}
use Rattle.store_model.specs.declared.signature.EquivRow.{EquivRow}
use Rattle.store_model.specs.Available.{IsStored, object_folder, task_folder}
use Rattle.store_model.specs.Paths.{record_path}
use Rattle.store_model.specs.Rows.{row_at}
use Rattle.store_model.specs.Signatures.{Signed}
use Rattle.store_model.specs.Spelling.{name_of}
use Rattle.build_store.specs.declared.restoring.FoundObject.{FoundObject}
use Rattle.build_store.specs.Keys.{HasNoOtherKey, HoldsKeyOf, is_new_key}
use Rattle.build_store.specs.Phases.{put_of}
use Rattle.build_store.specs.Publication.{AreShort, HasNoObject, IsObjectOf, IsPublished, Publishes, publication, restoration}
use Rattle.build_store.specs.View.{unshared}
use Rattle.store_model.specs.Publication.{Publication}

-- the row's object is this tree
pub record IsObject (row : EquivRow) (held : Store) (tree : Entries) : Type 0 where
  pub is_tree : IsTree tree
  pub holds : HoldsTree (object_folder row.unihash) tree held
  pub manifest : row.manifest ≡ manifest_lines tree

-- the object is put back, over the record that stands there
abbrev pub back_of : PlanTask → EquivRow → Entries → Entry → Publication
back_of of row tree f = put_of (task_folder of) row.name tree None None f row.sig

-- the row's object is put back, where this is its record's file
abbrev pub PutsBackBy : PlanTask → EquivRow → Store → Entry → Store → Store → Type 0
PutsBackBy of row held f old new = (new ≡ old) ⊎ ((tree : Entries) × IsObject row held tree × Publishes (back_of of row tree f) old new)

-- at each moment nothing changed, or the row's object is put back
abbrev pub PutsBack : PlanTask → EquivRow → Story → Story → Type 0
PutsBack of row old new = (f : Entry) → old.held (record_path row.name) ≡ Some f → HoldsKeyOf row.sig old.held → Passes old new (PutsBackBy of row old.held f)

-- each image has it
abbrev pub IsPutBack : PlanTask → EquivRow → Story → Story → Type 0
IsPutBack of row old new = (f : Entry) → old.held (record_path row.name) ≡ Some f → HoldsKeyOf row.sig old.held →
    (tree : Entries) × IsObject row old.held tree × EachNow new (IsPublished (back_of of row tree f))

-- ---- in pieces

-- the tree of an object, with the manifest of this row, which it has
pub record IsFoundBy (row : EquivRow) (found : FoundObject) : Type 0 where
  pub manifest : row.manifest ≡ found.manifest
  pub listed : found.manifest ≡ manifest_lines found.tree
  pub is_tree : IsTree found.tree
  pub short : AreShort found.tree

-- What was found of a task's object: by the row of its record, whose key is known, and no other one under its name.
pub record IsFound (rows : List EquivRow) (keys : List (List ℕ)) (s : Signed) (found : FoundObject) : Type 0 where
  pub row : EquivRow
  pub stored : IsStored rows s row
  pub by_row : IsFoundBy row found
  pub known : is_new_key keys s.sig ≡ false
  pub one_key : HasNoOtherKey keys s.sig

-- and where the disk tells it is the object; nothing exactly where there is none
abbrev pub IsFoundIn : Store → List EquivRow → Signed → Option FoundObject → Type 0
IsFoundIn held rows s None = HasNoObject held rows s
IsFoundIn held rows s (Some found) = (row : EquivRow) × IsObjectOf held rows s row found.tree

-- A restoring puts what the publication of the same task puts as one without an object, where its record is stored and has the tree's manifest. So all
-- that follows for publications that are open follows for restorings.
abbrev pub RestoringIsPublishing : Type 0
RestoringIsPublishing = (rows : List EquivRow) (s : Signed) (row : EquivRow) (tree : Entries) → row_at rows (name_of s.sig) ≡ Some row → row.manifest ≡ manifest_lines tree → publication rows (unshared s) tree ≡ restoration s row tree
