-- A publication in three turns, with a ticket behind each: its folders, its record and its stamp are written, the two of these where they are
-- staged; the record is renamed; the stamp is renamed. What holds between two turns, whosever they were. (Own rules.)
use Rattle.std.specs.Prelude.{◌≡◌, ◌≢◌, ◌⊎◌, ◌≤◌, ℕ, Bool, true, List, Some, None, Result, Ok}
use Rattle.tree_model.specs.declared.entry.Entry.{Entry}
use Rattle.outside_traits.specs.declared.fault.DiskFault.{DiskFault}
use Rattle.outside_traits.specs.Store.{Store}
use Rattle.outside_traits.specs.Story.{Story, moment, ended, IsImageAbove, IsSound}
use Rattle.outside_traits.specs.Passes.{EachNow, Passes}
use Rattle.outside_traits.specs.Answers.{IsSettled, Renames}

-- The parts of a publication: the paths of its folders and what they are to hold; the record's file and the stamp's, each with the path where
-- it is staged and the one that it is renamed to.
pub record Parts : Type 0 where
  pub own : List ℕ → Bool
  pub tree : Store
  pub staged_record : List ℕ
  pub record_path : List ℕ
  pub file : Entry
  pub staged_stamp : List ℕ
  pub stamp_path : List ℕ
  pub line : Entry

-- its paths are apart
pub record IsPlaced (p : Parts) : Type 0 where
  pub record_own : (q : List ℕ) → p.own q ≡ true → (q ≢ p.staged_record) × (q ≢ p.record_path)
  pub stamp_own : (q : List ℕ) → p.own q ≡ true → (q ≢ p.staged_stamp) × (q ≢ p.stamp_path)
  pub staged_apart : (p.staged_stamp ≢ p.staged_record) × (p.staged_stamp ≢ p.record_path)
  pub stamp_apart : (p.stamp_path ≢ p.staged_record) × (p.stamp_path ≢ p.record_path)

-- What others do to what is its: nothing. (So it is for the calls of each other publication, for what only reads, and for ends of tickets.)
pub record KeepsParts (p : Parts) (old new : Store) : Type 0 where
  pub own : (q : List ℕ) → p.own q ≡ true → new q ≡ old q
  pub staged_record : new p.staged_record ≡ old p.staged_record
  pub record_path : new p.record_path ≡ old p.record_path
  pub staged_stamp : new p.staged_stamp ≡ old p.staged_stamp
  pub stamp_path : new p.stamp_path ≡ old p.stamp_path

-- all that the stamp tells of is there
pub record IsThere (p : Parts) (image : Store) : Type 0 where
  pub own : (q : List ℕ) → p.own q ≡ true → image q ≡ p.tree q
  pub stored : image p.record_path ≡ Some p.file

-- the folders are written and the stamp is staged; the record may be renamed or not
pub record IsHalf (p : Parts) (image : Store) : Type 0 where
  pub own : (q : List ℕ) → p.own q ≡ true → image q ≡ p.tree q
  pub staged_stamp : image p.staged_stamp ≡ Some p.line
  pub unstamped : image p.stamp_path ≡ None

-- the record isn't renamed yet
pub record IsReady (p : Parts) (image : Store) : Type 0 where
  pub half : IsHalf p image
  pub staged_record : image p.staged_record ≡ Some p.file

-- the record stands under its name
pub record IsStored (p : Parts) (image : Store) : Type 0 where
  pub half : IsHalf p image
  pub stored : image p.record_path ≡ Some p.file

-- the stamp may be renamed or not
pub record IsHonest (p : Parts) (image : Store) : Type 0 where
  pub there : IsThere p image
  pub stamp : (image p.stamp_path ≡ None) ⊎ (image p.stamp_path ≡ Some p.line)

-- all of it is there
pub record IsWhole (p : Parts) (image : Store) : Type 0 where
  pub there : IsThere p image
  pub stamp : image p.stamp_path ≡ Some p.line

-- All is staged; or all but the record, which stands under its name already; the record is renamed; the stamp is renamed. Each with the moment
-- of its ticket.
pub data Phase : Type 0 where
  staged : (k : ℕ) → Phase
  kept : (k : ℕ) → Phase
  stored : (k : ℕ) → Phase
  stamped : (k : ℕ) → Phase

-- each image now has the property, where besides the moment k is durable: so each has it once a ticket of k is ended
abbrev pub EachAbove : Story → ℕ → (Store → Type 0) → Type 0
EachAbove story k P = (image : Store) → IsImageAbove story k image → P image

-- nothing is held at the stamp's path
abbrev pub IsUnstamped : Parts → Store → Type 0
IsUnstamped p image = image p.stamp_path ≡ None

-- what each image is now, and what each will be once the ticket is ended
abbrev pub IsAt : Parts → Phase → Story → Type 0
IsAt p (staged k) s = (k ≤ moment s) × EachNow s (IsUnstamped p) × EachAbove s k (IsReady p)
IsAt p (kept k) s = (k ≤ moment s) × EachNow s (IsUnstamped p) × EachAbove s k (IsStored p)
IsAt p (stored k) s = (k ≤ moment s) × EachNow s (IsHalf p) × EachAbove s k (IsStored p)
IsAt p (stamped k) s = (k ≤ moment s) × EachNow s (IsHonest p) × EachAbove s k (IsWhole p)

-- all but the record is written, and no crash leaves a stamp
pub record IsWritten (p : Parts) (s : Story) : Type 0 where
  pub own : (q : List ℕ) → p.own q ≡ true → s.held q ≡ p.tree q
  pub staged_stamp : s.held p.staged_stamp ≡ Some p.line
  pub unstamped : EachNow s (IsUnstamped p)

-- Where all is written, a ticket of now may be taken.
abbrev pub PhasesBegin : Type 0
PhasesBegin = (p : Parts) (a : Story) → IsSound a → IsWritten p a
    → (a.held p.staged_record ≡ Some p.file → IsAt p (staged (moment a)) a) × (a.held p.record_path ≡ Some p.file → IsAt p (kept (moment a)) a)

-- What others do leaves each phase as it is: their turns in any order, as many as there are.
abbrev pub PhasesStay : Type 0
PhasesStay = (p : Parts) (phase : Phase) (a b : Story) → IsAt p phase a → Passes a b (KeepsParts p) → IsAt p phase b

-- Behind the end of the ticket the file that comes next may be renamed.
abbrev pub PhasesSettle : Type 0
PhasesSettle = (p : Parts) (a : Story) (k : ℕ) → IsSound a
    → (IsAt p (staged k) a → IsSettled p.staged_record (ended k a))
    × (IsAt p (kept k) a ⊎ IsAt p (stored k) a → IsSettled p.staged_stamp (ended k a))

-- The rename leads to the next phase, with a ticket of the moment behind it.
abbrev pub PhasesGoOn : Type 0
PhasesGoOn = (p : Parts) (a b : Story) (k : ℕ) → IsPlaced p → IsSound a
    → (IsAt p (staged k) a → Renames p.staged_record p.record_path (ended k a) b {T = Unit {0}} (Ok (tt {0})) → IsAt p (stored (moment b)) b)
    × (IsAt p (kept k) a ⊎ IsAt p (stored k) a → Renames p.staged_stamp p.stamp_path (ended k a) b {T = Unit {0}} (Ok (tt {0})) → IsAt p (stamped (moment b)) b)

-- Whatever the rename answers, the record and the stamp tell of nothing that isn't there.
abbrev pub PhasesBreak : Type 0
PhasesBreak = (p : Parts) (a b : Story) (k : ℕ) (r : Result (Unit {0}) DiskFault) → IsPlaced p → IsSound a
    → (IsAt p (staged k) a → Renames p.staged_record p.record_path (ended k a) b r → EachNow b (IsHalf p))
    × (IsAt p (kept k) a ⊎ IsAt p (stored k) a → Renames p.staged_stamp p.stamp_path (ended k a) b r → EachNow b (IsHonest p))

-- Behind the last ticket's end each image has all of it.
abbrev pub PhasesEnd : Type 0
PhasesEnd = (p : Parts) (a : Story) (k : ℕ) → IsAt p (stamped k) a → EachNow (ended k a) (IsWhole p)
