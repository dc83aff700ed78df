-- What the calls of open publications do to a store, beside its disk.
use Rattle.std.specs.Prelude.{◌≡◌, ◌≢◌, ◌⊎◌, ℕ, List, Contains, Option, Some, None}
use Rattle.outside_traits.specs.Passes.{EachNow}
use Rattle.outside_traits.specs.Story.{Story}
use Rattle.meta_model.specs.CleanBuild.{Entries}
use Rattle.tree_model.specs.declared.hash.Hash.{Hash}
use Rattle.store_model.specs.declared.signature.EquivRow.{EquivRow}
use Rattle.store_model.specs.Available.{IsStored, task_folder}
use Rattle.tree_model.specs.Manifest.{manifest_lines}
use Rattle.store_model.specs.Readable.{IsReadable}
use Rattle.store_model.specs.Signatures.{Signed}
use Rattle.store_model.specs.Spelling.{name_of, signature_bytes}
use Rattle.build_store.specs.declared.step.Step.{Step}
use Rattle.build_store.specs.declared.step.Step.TheVariants as step
use Rattle.store_model.specs.Clashes.{KeysAgree}
use Rattle.build_store.specs.Keys.{keys_with}
use Rattle.build_store.specs.Publication.{IsAgreed, IsObjectOf, IsPublished, line_for, object_for, publication, rows_with, unihash_for}
use Rattle.build_store.specs.View.{OpenView, OpenViews, SameBooks, View, kept_with, kept_without, opened_at, unshared}

-- the publication of a task with its signature, which gave this tree, as contracts see it
abbrev pub open_view : Signed → Entries → OpenView
open_view s tree = record { folder = task_folder s.task; name = name_of s.sig; sig = signature_bytes s.sig; shared = s.task.sstate; tree = tree }

-- it is open
abbrev pub IsOpen : OpenViews → Signed → Entries → Type 0
IsOpen opened s tree = opened_at opened (task_folder s.task) ≡ Some (open_view s tree)

-- At this folder nothing was open, and this is; the others are as they were.
pub record OpensOne (folder : List ℕ) (one : OpenView) (old new : OpenViews) : Type 0 where
  pub none : opened_at old folder ≡ None
  pub is_open : opened_at new folder ≡ Some one
  pub others : (beside : List ℕ) → beside ≢ folder → opened_at new beside ≡ opened_at old beside

-- What is at this folder is open no more; the others are as they were.
pub record ClosesOne (folder : List ℕ) (old new : OpenViews) : Type 0 where
  pub closed : opened_at new folder ≡ None
  pub others : (beside : List ℕ) → beside ≢ folder → opened_at new beside ≡ opened_at old beside

-- no publication that is open has a record of this name
abbrev pub NoneNamed : OpenViews → Hash → Type 0
NoneNamed opened name = (folder : List ℕ) (one : OpenView) → opened_at opened folder ≡ Some one → one.name ≢ name

-- Digests meet: a publication is open that has this record, or this object.
pub record Meets (rows : List EquivRow) (opened : OpenViews) (name : Hash) (object : Option Hash) : Type 0 where
  pub of : Signed
  pub gave : Entries
  pub is_open : IsOpen opened of gave
  pub meets : (name_of of.sig ≡ name) ⊎ ((unihash : Hash) × ((object_for rows of gave ≡ Some unihash) × (object ≡ Some unihash)))

module _ {D : Type 0} (old new : View D) (s : Signed) where
  -- The publication of the task was opened: its signature is kept, its key is known, and its line can be read again. No row, and no publication that was
  -- open, has another key with the digest of its key.
  pub record OpensTask (tree : Entries) : Type 0 where
    pub opened : OpensOne (task_folder s.task) (open_view s tree) old.opened new.opened
    pub kept : new.kept ≡ kept_with s old.kept
    pub keys : new.keys ≡ keys_with old.keys s.sig
    pub one_key : (row : EquivRow) → Contains old.rows row → KeysAgree row.sig (signature_bytes s.sig)
    pub beside : (folder : List ℕ) (one : OpenView) → opened_at old.opened folder ≡ Some one → KeysAgree one.sig (signature_bytes s.sig)
    pub faultless : new.faultless ≡ old.faultless
    pub agrees : IsAgreed old.rows s tree
    pub readable : IsReadable (line_for old.rows s tree)

  -- The task has a publication open that isn't done yet.
  pub record GoesOn : Type 0 where
    pub tree : Entries
    pub was_open : IsOpen old.opened s tree
    pub books : SameBooks old new

  -- The task had a publication open, which is done: its row is added, if it is new, and its signature is kept no longer.
  pub record Lands (unihash : Hash) : Type 0 where
    pub tree : Entries
    pub was_open : IsOpen old.opened s tree
    pub unihash_is : unihash ≡ unihash_for old.rows s tree
    pub rows : new.rows ≡ rows_with old.rows s tree
    pub kept : new.kept ≡ kept_without s old.kept
    pub keys : new.keys ≡ old.keys
    pub opened : ClosesOne (task_folder s.task) old.opened new.opened
    pub faultless : new.faultless ≡ old.faultless
    pub agrees : IsAgreed old.rows s tree

  -- What a step came to: nothing of the task with this signature was open, and nothing changed; or more is left; or all is done.
  abbrev pub StepsTo : Step → Type 0
  StepsTo step.NotOpen = (new ≡ old) × ((tree : Entries) → IsOpen old.opened s tree → ⊥)
  StepsTo step.More = GoesOn
  StepsTo step.Wait = GoesOn
  StepsTo (step.Done unihash) = Lands unihash

-- The restoring of a task was opened: what is put is the tree of its object, by the row of its record.
pub record OpensRestoring {D : Type 0} (tells : Type 0) (story : D → Story) (old new : View D) (s : Signed) : Type 0 where
  pub row : EquivRow
  pub tree : Entries
  pub opens : OpensTask old new (unshared s) tree
  pub stored : IsStored old.rows s row
  pub manifest : row.manifest ≡ manifest_lines tree
  pub object : tells → IsObjectOf (story old.disk).held old.rows s row tree

-- the step led on, and more is left
abbrev pub IsGoing : Step → Type 0
IsGoing step.NotOpen = ⊥
IsGoing step.More = Unit {0}
IsGoing step.Wait = Unit {0}
IsGoing (step.Done unihash) = ⊥

-- where it is done, each crash leaves all that the task's stamp tells of
abbrev pub LandsOn : Story → List EquivRow → OpenViews → Signed → Step → Type 0
LandsOn story rows opened s step.NotOpen = Unit {0}
LandsOn story rows opened s step.More = Unit {0}
LandsOn story rows opened s step.Wait = Unit {0}
LandsOn story rows opened s (step.Done unihash) = (tree : Entries) → IsOpen opened s tree → EachNow story (IsPublished (publication rows s tree))
