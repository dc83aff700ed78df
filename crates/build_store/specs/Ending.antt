-- How far a publication is that has no item left: all is staged, the record is renamed, the stamp is renamed. Each phase has the moment of a
-- ticket. What others do leaves it as it is, and the turn that ends the ticket leads on.
use Rattle.std.specs.Prelude.{◌≡◌, ◌⊎◌, ◌≤◌, ℕ, Some, None, Ok}
use Rattle.tree_model.specs.declared.hash.Hash.{Hash}
use Rattle.outside_traits.specs.Answers.{Renames}
use Rattle.outside_traits.specs.Passes.{EachNow, Passes, Same}
use Rattle.outside_traits.specs.Phases.{EachAbove, Phase, kept, staged, stamped, stored}
use Rattle.outside_traits.specs.Store.{HoldsTree, Store}
use Rattle.outside_traits.specs.Story.{IsSound, Story, ended, moment}
use Rattle.stamp_store.specs.Stamp.{stamp_path, staged_path}
use Rattle.store_model.specs.Available.{object_folder}
use Rattle.store_model.specs.Paths.{key_path, record_path}
use Rattle.store_model.specs.Publication.{stamp_at, stamp_file, work_at, Publication}
use Rattle.store_opening.specs.Paths.{staged_record_path}
use Rattle.build_store.specs.Publication.{IsPublished}

-- A ticket's moment: where besides all up to it is durable, a crash leaves just what is held.
pub record IsTicket (k : ℕ) (story : Story) : Type 0 where
  pub past : k ≤ moment story
  pub held : EachAbove story k (λ image. image ≡ story.held)

-- the folders hold exactly the tree
pub record HasFolders (p : Publication) (image : Store) : Type 0 where
  pub work : HoldsTree (work_at p.folder) p.tree image
  pub shared : (unihash : Hash) → p.object ≡ Some unihash → HoldsTree (object_folder unihash) p.tree image

-- The folders hold the tree, the stamp is staged, and none is held.
pub record IsWaiting (p : Publication) (image : Store) : Type 0 where
  pub folders : HasFolders p image
  pub staged_stamp : image (staged_path p.folder) ≡ Some (stamp_file p.name)
  pub unstamped : image (stamp_at p.folder) ≡ None

-- besides, the record's file is staged, and its key is held
pub record IsReady (p : Publication) (image : Store) : Type 0 where
  pub waiting : IsWaiting p image
  pub staged_record : image (staged_record_path p.name) ≡ Some p.file
  pub key : image (key_path p.key) ≡ Some p.key_file

-- besides, the record stands in its place, and its key is held
pub record IsStored (p : Publication) (image : Store) : Type 0 where
  pub waiting : IsWaiting p image
  pub stored : image (record_path p.name) ≡ Some p.file
  pub key : image (key_path p.key) ≡ Some p.key_file

-- All that the stamp tells of is there, and the stamp or none.
pub record IsHonest (p : Publication) (image : Store) : Type 0 where
  pub folders : HasFolders p image
  pub stored : image (record_path p.name) ≡ Some p.file
  pub key : image (key_path p.key) ≡ Some p.key_file
  pub stamp : (image (stamp_at p.folder) ≡ None) ⊎ (image (stamp_at p.folder) ≡ Some (stamp_file p.name))

-- what each image has in the phase, and what each has once its ticket is ended
abbrev pub IsAt : Publication → Phase → Story → Type 0
IsAt p (staged k) story = (k ≤ moment story) × EachNow story (λ image. image (stamp_at p.folder) ≡ None) × EachAbove story k (IsReady p)
IsAt p (kept k) story = (k ≤ moment story) × EachNow story (λ image. image (stamp_at p.folder) ≡ None) × EachAbove story k (IsStored p)
IsAt p (stored k) story = (k ≤ moment story) × EachNow story (IsWaiting p) × EachAbove story k (IsStored p)
IsAt p (stamped k) story = (k ≤ moment story) × EachNow story (IsHonest p) × EachAbove story k (IsPublished p)

-- What others do to what is a publication's own: nothing.
pub record KeepsPut (p : Publication) (old new : Store) : Type 0 where
  pub folders : HasFolders p old → HasFolders p new
  pub staged_record : new (staged_record_path p.name) ≡ old (staged_record_path p.name)
  pub record_at : new (record_path p.name) ≡ old (record_path p.name)
  pub key : new (key_path p.key) ≡ old (key_path p.key)
  pub staged_stamp : new (staged_path p.folder) ≡ old (staged_path p.folder)
  pub stamp : new (stamp_at p.folder) ≡ old (stamp_at p.folder)

-- The present moment is a ticket's.
abbrev pub NowIsTicket : Type 0
NowIsTicket = (story : Story) → IsTicket (moment story) story

-- With all written and staged, and no image with a stamp, the first ticket may be taken: the record is staged, or it stands in its place.
abbrev pub StagedAtFirst : Type 0
StagedAtFirst = (p : Publication) (a : Story) (k : ℕ) → IsTicket k a → EachNow a (λ image. image (stamp_at p.folder) ≡ None) → (IsReady p a.held → IsAt p (staged k) a) × (IsStored p a.held → IsAt p (kept k) a)

-- What others do leaves each phase as it is: their turns in any order, as many as there are.
abbrev pub PhasesStay : Type 0
PhasesStay = (p : Publication) (phase : Phase) (a b : Story) → IsAt p phase a → Passes a b (KeepsPut p) → IsAt p phase b

-- The turn that ends the ticket renames the record, if it is new, and takes the next ticket.
abbrev pub RecordGoesOn : Type 0
RecordGoesOn = (p : Publication) (a b c : Story) (k n : ℕ) → IsSound a → IsAt p (staged k) a → Renames (staged_record_path p.name) (record_path p.name) (ended k a) b {T = Unit {0}} (Ok (tt {0})) →
    Passes b c Same → IsTicket n c → IsAt p (stored n) c

-- Then, or at once where the record stood there, it renames the stamp.
abbrev pub StampGoesOn : Type 0
StampGoesOn = (p : Publication) (a b c : Story) (k n : ℕ) → IsSound a → IsAt p (kept k) a ⊎ IsAt p (stored k) a → Renames (staged_path p.folder) (stamp_path p.folder) (ended k a) b {T = Unit {0}} (Ok (tt {0})) →
    Passes b c Same → IsTicket n c → IsAt p (stamped n) c

-- And behind the last ticket's end each image has all that the stamp tells of.
abbrev pub PhasesEnd : Type 0
PhasesEnd = (p : Publication) (a : Story) (k : ℕ) → IsAt p (stamped k) a → EachNow (ended k a) (IsPublished p)
