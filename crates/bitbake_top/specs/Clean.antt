-- What is answered where the store is to be cleared. (Own rules.)
use Rattle.std.specs.Prelude.{◌≡◌, ◌≢◌, ◌⊎◌, ◌++◌, ℕ, Bool, true, false, List, [], Option, None, Some, codes, IfSome}
use Rattle.std.specs.Fmt.{decimal}
use Rattle.outside_traits.specs.declared.fault.DiskFault.{DiskFault}
use Rattle.outside_traits.specs.declared.fault.DiskFault.TheVariants as disk
use Rattle.outside_traits.specs.Passes.{Passes, Same}
use Rattle.outside_traits.specs.Store.{Store}
use Rattle.outside_traits.specs.Story.{Story}
use Rattle.meta_model.specs.declared.event.Status.{Status}
use Rattle.meta_model.specs.declared.event.Status.TheVariants as status
use Rattle.meta_model.specs.declared.plan.Plan.{Plan}
use Rattle.plan_model.specs.Inputs.{Files}
use Rattle.answer_model.specs.declared.asked.RunRequest.{RunRequest}
use Rattle.answer_model.specs.Asked.{AskConfigs, AskRun}
use Rattle.answer_model.specs.Plans.{IsPlanRefused}
use Rattle.run_model.specs.Written.{WritesFront}
use Rattle.store_clean.specs.declared.clearing.Cleaned.{Cleaned}
use Rattle.plan_clean.specs.Along.{IsAlong, IsClearedBy, IsCountedBy}
use Rattle.why_model.specs.Answered.{IsPlanned}

-- There are words, and they ask for a run. The targets of one of several configurations are looked up in the default one as well, which has no target that
-- begins with `mc:`.
pub record AskTargets (words : List (List ℕ)) (request : RunRequest) : Type 0 where
  pub some : words ≢ []
  pub asks : AskRun words request ⊎ AskConfigs words request

-- ---- what is printed

abbrev pub clean_front : Bool → List ℕ
clean_front true = codes "would clean: "
clean_front false = codes "cleaned: "

-- the line of a clearing, or of what it would do
abbrev pub clean_text : Bool → Cleaned → List ℕ
clean_text dry cleaned = clean_front dry ++ (decimal cleaned.kept ++ (codes " kept, " ++ (decimal cleaned.gone ++ codes " gone\n")))

-- the line was printed, whole
abbrev pub PrintsNumbers : Bool → Option Cleaned → List ℕ → List ℕ → Type 0
PrintsNumbers dry None old new = ⊥
PrintsNumbers dry (Some cleaned) old new = new ≡ old ++ clean_text dry cleaned

-- or a front of it
abbrev pub PrintsNumbersFront : Bool → Option Cleaned → List ℕ → List ℕ → Type 0
PrintsNumbersFront dry None old new = ⊥
PrintsNumbersFront dry (Some cleaned) old new = WritesFront old new (clean_text dry cleaned)

-- ---- what becomes of the disk

-- nothing, where it is only asked; else it is opened and cleared, or on the way through that
abbrev pub MovesBy : Bool → Option Plan → ℕ → Story → Story → Type 0
MovesBy true plan limit old new = Passes old new Same
MovesBy false plan limit old new = Passes old new (IsAlong plan limit old.held)

-- the numbers of what a clearing would do, or did
abbrev pub AreNumbers : Bool → Option Plan → ℕ → Store → Story → Cleaned → Type 0
AreNumbers true plan limit held after cleaned = IsCountedBy plan limit held cleaned
AreNumbers false plan limit held after cleaned = IsClearedBy plan limit held after cleaned

-- What a clearing by the names of a plan's tasks did, or without a plan; a dry one only counts. The types say whether the disk and the sink tell; the texts are
-- what was written before and after.
pub record DidClean (plan : Option Plan) (limit : ℕ) (dry : Bool) (disk sink : Type 0) (old new : Story) (cleaned : Option Cleaned) (s : Status) (base now : List ℕ) : Type 0 where
  -- at each moment, whatever is answered
  pub moments : disk → MovesBy dry plan limit old new
  -- where there are numbers, it was done, and they are its own
  pub numbers : disk → IfSome cleaned (AreNumbers dry plan limit old.held new)
  -- under Ok their line was printed, and where the sink failed behind it a front of that
  pub whole : sink → s ≡ status.Ok → PrintsNumbers dry cleaned base now
  pub front : sink → s ≡ status.WriteFault → PrintsNumbersFront dry cleaned base now

-- ---- what is answered

-- the statuses where metadata isn't asked
abbrev pub IsCleanStatus : Status → Type 0
IsCleanStatus status.Ok = Unit {0}
IsCleanStatus status.WriteFault = Unit {0}
IsCleanStatus status.DiskFault = Unit {0}
IsCleanStatus status.OutOfMemory = Unit {0}
IsCleanStatus _ = ⊥

-- The status fits: Ok and that of a fault of the disk or the sink come only where the request has a plan, and a fault of metadata or a limit only where that
-- is the refusal. It may say besides that the layers failed or that memory was wanting, and nothing else.
abbrev pub HasClean : Status → Files → List (List ℕ) → RunRequest → Type 0
HasClean status.Ok files paths request = IsPlanned files paths request
HasClean status.WriteFault files paths request = IsPlanned files paths request
HasClean status.DiskFault files paths request = IsPlanned files paths request
HasClean (status.Metadata file line kind detail) files paths request = IsPlanRefused files paths request.targets request.task request.force (status.Metadata file line kind detail)
HasClean (status.Limit kind) files paths request = IsPlanRefused files paths request.targets request.task request.force (status.Limit kind)
HasClean status.ReadFault files paths request = Unit {0}
HasClean status.OutOfMemory files paths request = Unit {0}
HasClean _ files paths request = ⊥

-- the statuses of words and metadata that are refused: then the disk isn't touched
abbrev pub is_unclean : Status → Bool
is_unclean status.Usage = true
is_unclean (status.Metadata file line kind detail) = true
is_unclean (status.Limit kind) = true
is_unclean status.ReadFault = true
is_unclean _ = false

-- the status of a fault of the disk, or of want of memory in its place
abbrev pub IsFaultStatus : DiskFault → Status → Type 0
IsFaultStatus disk.Failed s = s ≡ status.DiskFault
IsFaultStatus disk.Memory s = s ≡ status.OutOfMemory

-- there are words that ask for no run, or memory was wanting
abbrev pub AskNoTargets : List (List ℕ) → Status → Type 0
AskNoTargets words s = (s ≡ status.OutOfMemory) ⊎ ((s ≡ status.Usage) × ((request : RunRequest) → AskTargets words request → ⊥))
