-- What is promised of a run whose devices tell what they hold.
use Rattle.std.specs.Prelude.{None, true, ◌≡◌, ◌⊎◌, ℕ, false, List, [], ◌∷◌, ◌++◌, Contains, All}
use Rattle.std.specs.List.{AllByRecursion}
use Rattle.outside_traits.specs.Store.{Store}
use Rattle.outside_traits.specs.Passes.{EachNow}
use Rattle.outside_traits.specs.Story.{IsImageSince, Story}
use Rattle.meta_model.specs.declared.event.Logged.{Logged}
use Rattle.meta_model.specs.declared.event.Status.{Status}
use Rattle.meta_model.specs.declared.event.Status.TheVariants as status
use Rattle.meta_model.specs.declared.plan.Options.{Options}
use Rattle.meta_model.specs.declared.plan.Plan.{Plan}
use Rattle.meta_model.specs.CleanBuild.{Gives}
use Rattle.store_model.specs.Origins.{Book, Reading}
use Rattle.store_model.specs.Valid.{IsValid}
use Rattle.store_model.specs.Readable.{IsReadable}
use Rattle.plan_model.specs.Sound.{AreWanted}
use Rattle.run_model.specs.Opening.{MayTake}
use Rattle.run_model.specs.Runs.{Runs}
use Rattle.run_model.specs.Benches.{AtSeats}
use Rattle.run_model.specs.Build.{FailsClean, HasRun, HasTargets, IsCrash, IsEachFailureTold, LeavesOthers, RanStarted, failed_in, is_unsteady}

-- a disk that holds nothing
abbrev pub nothing : Store
nothing path = None

-- What is asked of a run beside its devices: what the disk holds is valid with a book of lines that can be read again, and the plan may take of
-- the book what it wants.
pub record MayBegin (gives : Gives) (reading : Reading) (book : Book) (held : Store) (plan : Plan) : Type 0 where
  pub valid : IsValid gives reading held book
  pub readable : AllByRecursion IsReadable book
  pub may : MayTake gives reading held book plan.tasks

-- Each bench ran what its seat started in the tale, each over the clean outputs of what it needs; without a tale none ran anything.
abbrev pub RanTales : Gives → Plan → List (List Logged) → List Runs → List Runs → Type 0
RanTales gives plan [] before now = now ≡ before
RanTales gives plan (tale ∷ more) before now = AtSeats (RanStarted gives plan tale) before now

-- *The headline*, but for when the answer is Ok. The store is what the disk held as the call began, the story is the disk's at its end.
pub record Keeps (gives : Gives) (reading : Reading) (book : Book) (held : Store) (plan : Plan) (options : Options) (tales : List (List Logged)) (s : Status) (story : Story) (before now : List Runs) : Type 0 where
  -- under Ok each target's work folder holds exactly its clean output, whatever a crash leaves
  pub exact : s ≡ status.Ok → EachNow story (HasTargets gives plan)
  -- whatever the status is, each crash since the call began leaves a valid store, in which the next run may begin
  pub crashes : (image : Store) → IsImageSince story 0 image → IsCrash gives reading book image
  -- the tale is legal over the store as it was opened; what ended is recorded, no stamp lies, and settled tasks stand from their events on
  pub legal : All (λ tale. (tale ≡ []) ⊎ HasRun gives reading book held plan options tale s story) tales
  -- each task that failed fails by itself in the clean build
  pub real : All (λ tale. (t : ℕ) → Contains (failed_in tale) t → FailsClean gives plan t) tales
  -- and with `-k` each task that fails by itself in the clean build is told
  pub all_told : AreWanted plan → s ≡ status.TaskFailed → options.keep_going ≡ true → All (IsEachFailureTold gives plan) tales
  -- each crash since the call began leaves alone what isn't the own of tasks that ended or that the tale restores, but for `tmp/` and, where one
  -- ended, for folders of `obj/` that are no line's object; under the status of a fault one task more for each worker
  -- may have been touched, and one for each worker that was being restored
  pub others : All (λ tale. LeavesOthers gives book held plan options tale s story) tales
  -- no output is found to differ from one run to another
  pub steady : is_unsteady s ≡ false
  -- the runs of each bench are the tasks that its seat started
  pub ran : RanTales gives plan tales before now

-- ---- where a run may begin

-- A run may begin on an empty disk.
abbrev pub BeginsFirst : Type 0
BeginsFirst = (gives : Gives) (reading : Reading) (plan : Plan) → MayTake gives reading nothing [] plan.tasks → MayBegin gives reading [] nothing plan

-- A run of any plan may begin on what a crash of any run left, where the plan may take of the book that the crash left.
abbrev pub BeginsAgain : Type 0
BeginsAgain = (gives : Gives) (reading : Reading) (book : Book) (image : Store) (crash : IsCrash gives reading book image) (plan : Plan) → MayTake gives reading image (crash.again ++ crash.lines) plan.tasks → MayBegin gives reading (crash.again ++ crash.lines) image plan
