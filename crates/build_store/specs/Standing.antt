-- What a store keeps of the publications that it has open, together.
use Rattle.std.specs.Prelude.{◌≡◌, ◌≢◌, ◌⊎◌, ◌||◌, ℕ, Bool, false, List, [], ◌∷◌, ◌++◌, codes, length, Option, Some, None}
use Rattle.std.specs.List.{AllByRecursion}
use Rattle.std.specs.Option.{is_some}
use Rattle.std.specs.Str.{bytes_eq}
use Rattle.tree_model.specs.declared.hash.Hash.{Hash}
use Rattle.tree_model.specs.Path.{IsBelow}
use Rattle.outside_traits.specs.Passes.{EachNow}
use Rattle.outside_traits.specs.Store.{Store, slashes}
use Rattle.outside_traits.specs.Story.{Story}
use Rattle.store_model.specs.declared.signature.EquivRow.{EquivRow}
use Rattle.store_model.specs.Available.{task_folder}
use Rattle.store_model.specs.Publication.{stamp_at}
use Rattle.store_model.specs.Rows.{hash_eq}
use Rattle.store_model.specs.Signatures.{Signed}
use Rattle.store_model.specs.Spelling.{signature_bytes}
use Rattle.build_store.specs.declared.pieces.OpenPublication.{OpenPublication}
use Rattle.build_store.specs.Halves.{IsOn}
use Rattle.build_store.specs.Keys.{HoldsKeyOf, KnowsKeyOf}
use Rattle.build_store.specs.OpenOnes.{StagesAt, progress_of}
use Rattle.build_store.specs.OpenTasks.{IsOpenOf}
use Rattle.build_store.specs.Publication.{publication}
use Rattle.build_store.specs.View.{IsSignatureOf, open_in, opened_at}

-- it is the open publication of a task, with a signature of this task's
pub record IsOpenTask (rows : List EquivRow) (one : OpenPublication) : Type 0 where
  pub signed : Signed
  pub of : IsOpenOf rows signed one.tree one
  pub named : IsSignatureOf signed.task signed.sig

-- and on the disk it is as far as it says
pub record Stands (rows : List EquivRow) (story : Story) (one : OpenPublication) : Type 0 where
  pub task : IsOpenTask rows one
  pub on : IsOn (publication rows task.signed one.tree) (progress_of one) story

-- two that are open have neither a folder in common nor a record nor an object
abbrev pub IsBeside : OpenPublication → OpenPublication → Type 0
IsBeside one other = (other.folder ≢ one.folder) × (other.name ≢ one.name) × ((unihash : Hash) → one.object ≡ Some unihash → other.object ≡ Some unihash → ⊥)

-- nor have each two of these
abbrev pub AreBeside : List OpenPublication → Type 0
AreBeside [] = Unit {0}
AreBeside (one ∷ others) = AllByRecursion (IsBeside one) others × AreBeside others

-- what is kept of those that are open, whatever the disk tells
pub record AreOpen (rows : List EquivRow) (open_ones : List OpenPublication) : Type 0 where
  pub tasks : AllByRecursion (IsOpenTask rows) open_ones
  pub beside : AreBeside open_ones

-- where the disk tells
abbrev pub AreOn : List EquivRow → Story → List OpenPublication → Type 0
AreOn rows story open_ones = AllByRecursion (Stands rows story) open_ones

-- the key of each is known
abbrev pub KnowsOpen : List (List ℕ) → List OpenPublication → Type 0
KnowsOpen keys open_ones = AllByRecursion (λ one. KnowsKeyOf keys one.sig) open_ones

-- the key of each is held
abbrev pub HoldsOpen : List OpenPublication → Store → Type 0
HoldsOpen open_ones held = AllByRecursion (λ one. HoldsKeyOf one.sig held) open_ones

-- one of them has staged something at the path
abbrev pub IsStagedBy : List OpenPublication → List ℕ → Type 0
IsStagedBy [] q = ⊥
IsStagedBy (one ∷ others) q = StagesAt one one.reached q ⊎ IsStagedBy others q

-- What is kept while no call that changes the disk met a fault: nothing is held under `tmp/` but what open ones have staged; and each crash leaves the
-- stamp of a task's folder of which none is open as it is held.
pub record IsTidy (open_ones : List OpenPublication) (story : Story) : Type 0 where
  pub litter : (q : List ℕ) → IsBelow (codes "tmp") q → (story.held q ≡ None) ⊎ IsStagedBy open_ones q
  pub settled : (folder : List ℕ) → slashes folder ≡ 1 → opened_at (open_in open_ones) folder ≡ None → EachNow story (λ image. image (stamp_at folder) ≡ story.held (stamp_at folder))

-- where nothing was held under `tmp/` nothing is
abbrev pub AddsNoLitter : Store → Store → Type 0
AddsNoLitter old new = (q : List ℕ) → IsBelow (codes "tmp") q → old q ≡ None → new q ≡ None

-- ---- which of them is meant

-- none of them is of this folder
abbrev pub IsOther : List ℕ → OpenPublication → Type 0
IsOther folder one = bytes_eq one.folder folder ≡ false

-- it is that of the task with this signature, by what is compared
pub record IsFor (s : Signed) (one : OpenPublication) : Type 0 where
  pub folder : one.folder ≡ task_folder s.task
  pub sig : one.sig ≡ signature_bytes s.sig
  pub shared : is_some one.object ≡ s.task.sstate

-- at this place of the list it stands, the first of its folder
pub record StandsAt (s : Signed) (open_ones : List OpenPublication) (place : ℕ) : Type 0 where
  pub before : List OpenPublication
  pub one : OpenPublication
  pub after : List OpenPublication
  pub is : open_ones ≡ before ++ one ∷ after
  pub place_is : length before ≡ place
  pub first : AllByRecursion (IsOther (task_folder s.task)) before
  pub for_task : IsFor s one

-- whether two publications have an object in common
abbrev pub objects_meet : Option Hash → Option Hash → Bool
objects_meet None other = false
objects_meet (Some one) None = false
objects_meet (Some one) (Some other) = hash_eq one other

-- whether an open publication has this record, or this object
abbrev pub meets : Hash → Option Hash → OpenPublication → Bool
meets name object one = hash_eq one.name name || objects_meet one.object object

abbrev pub IsClearOf : Hash → Option Hash → OpenPublication → Type 0
IsClearOf name object one = meets name object one ≡ false
