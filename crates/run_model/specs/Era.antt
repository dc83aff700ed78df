-- An era: all runs, edits and interruptions since a disk was empty.
use Rattle.std.specs.Prelude.{◌≡◌, List}
use Rattle.outside_traits.specs.Store.{Store}
use Rattle.outside_traits.specs.Passes.{EachNow}
use Rattle.outside_traits.specs.Story.{IsImageSince, Story}
use Rattle.meta_model.specs.declared.event.Logged.{Logged}
use Rattle.meta_model.specs.declared.event.Status.{Status}
use Rattle.meta_model.specs.declared.event.Status.TheVariants as status
use Rattle.meta_model.specs.declared.plan.Options.{Options}
use Rattle.meta_model.specs.declared.plan.Plan.{Plan}
use Rattle.meta_model.specs.CleanBuild.{Gives}
use Rattle.store_model.specs.Origins.{Book, Reading}
use Rattle.store_model.specs.Valid.{IsValid}
use Rattle.run_model.specs.Runs.{Runs}
use Rattle.run_model.specs.Build.{HasTargets}
use Rattle.run_model.specs.Headline.{Keeps, MayBegin, nothing}
use Rattle.run_model.specs.Opening.{MayTake}

-- A call of the program: its plan, how it was to go on, what it told, how it ended, the disk at its end, and what the benches had run
-- before it and behind it. Between two calls the project may be edited in any way, so each has a plan of its own.
pub record Call : Type 0 where
  pub plan : Plan
  pub options : Options
  pub tales : List (List Logged)
  pub status : Status
  pub story : Story
  pub before : List Runs
  pub now : List Runs

-- What the top call promises of a call on what a disk holds: with each book by which it may begin there it keeps what runs keep.
abbrev pub IsPromised : Gives → Reading → Store → Call → Type 0
IsPromised gives reading held call =
    (book : Book) → MayBegin gives reading book held call.plan → Keeps gives reading book held call.plan call.options call.tales call.status call.story call.before call.now

-- the plan may take what it wants of whatever book is valid there
abbrev pub MayTakeAny : Gives → Reading → Store → Plan → Type 0
MayTakeAny gives reading held plan = (book : Book) → IsValid gives reading held book → MayTake gives reading held book plan.tasks

-- What a disk holds in an era: nothing; or what an interruption at any moment of a call left, or its end, where the call was made on what the
-- disk held in the era, and its plan might reuse that.
pub data IsOfEra (gives : Gives) (reading : Reading) : Store → Type 0 where
  begins : IsOfEra gives reading nothing
  goes_on : (held : Store) (call : Call) (image : Store) → IsOfEra gives reading held → MayTakeAny gives reading held call.plan → IsPromised gives reading held call → IsImageSince call.story 0 image → IsOfEra gives reading image

-- There is a book by which what is held is valid, and by which a run of any plan that may take of it may begin.
pub record HasBook (gives : Gives) (reading : Reading) (held : Store) : Type 0 where
  pub book : Book
  pub valid : IsValid gives reading held book
  pub begins : (plan : Plan) → MayTake gives reading held book plan.tasks → MayBegin gives reading book held plan

-- *Whatever came before*: in each era a run may begin.
abbrev pub ErasGoOn : Type 0
ErasGoOn = (gives : Gives) (reading : Reading) (held : Store) → IsOfEra gives reading held → HasBook gives reading held

-- And a call that answers Ok leaves exactly the clean outputs of its targets, whatever a crash behind it leaves.
abbrev pub ErasAreExact : Type 0
ErasAreExact =
    (gives : Gives) (reading : Reading) (held : Store) (call : Call) → IsOfEra gives reading held → MayTakeAny gives reading held call.plan → IsPromised gives reading held call
    → call.status ≡ status.Ok → EachNow call.story (HasTargets gives call.plan)
