-- What is asked of a run, and all that it leaves and writes.
use Rattle.std.specs.Prelude.{◌≡◌, ◌≢◌, ◌⊎◌, ℕ, Bool, true, false, List, [], ◌∷◌, ◌++◌}
use Rattle.std.specs.List.{AllByRecursion}
use Rattle.outside_traits.specs.Store.{Store}
use Rattle.outside_traits.specs.Story.{Story}
use Rattle.meta_model.specs.declared.event.Logged.{Logged}
use Rattle.meta_model.specs.declared.event.Status.{Status}
use Rattle.meta_model.specs.declared.event.Status.TheVariants as status
use Rattle.meta_model.specs.declared.plan.Options.{Options}
use Rattle.meta_model.specs.declared.plan.Plan.{Plan}
use Rattle.meta_model.specs.CleanBuild.{Gives}
use Rattle.store_model.specs.Origins.{Book, Reading}
use Rattle.store_model.specs.Valid.{IsValid}
use Rattle.store_model.specs.Readable.{IsReadable}
use Rattle.plan_model.specs.Sound.{AreWanted, IsSound}
use Rattle.plan_model.specs.Spellings.{HasSpellings}
use Rattle.run_model.specs.Ends.{is_plain}
use Rattle.run_model.specs.Report.{run_text}
use Rattle.run_model.specs.Written.{WritesFront}
use Rattle.run_model.specs.Opening.{MayTake}
use Rattle.run_model.specs.Runs.{Runs}
use Rattle.run_model.specs.Headline.{Keeps}
use Rattle.run_model.specs.Build.{AllClean}

-- What is asked of a run: the plan is sound; what the disk holds is valid with a book of lines that can be read again; the plan may take of the
-- book what it wants; and a program can hold the signatures of the plan's tasks.
pub record IsEntry (gives : Gives) (reading : Reading) (book : Book) (held : Store) (plan : Plan) : Type 0 where
  pub sound : IsSound plan
  pub valid : IsValid gives reading held book
  pub readable : AllByRecursion IsReadable book
  pub may : MayTake gives reading held book plan.tasks
  pub spellings : HasSpellings plan

-- ---- kinds of statuses

-- whether the status is that two signatures have one digest
abbrev pub is_collision : Status → Bool
is_collision (status.Collision name held given) = true
is_collision _ = false

-- ---- all together

-- *What a run leaves* where its devices tell, by the book with which it began: what the disk held then, and the story of the disk now; what
-- each bench ran before, and now.
pub record Leaves (gives : Gives) (reading : Reading) (book : Book) (held : Store) (plan : Plan) (options : Options) (tale : List Logged) (s : Status) (story : Story) (before now : List Runs) : Type 0 where
  -- all that the headline promises of this one tale
  pub keeps : Keeps gives reading book held plan options (tale ∷ []) s story before now
  -- whatever failed, Ok comes only where every task of the plan has a clean output, and TaskFailed only where one hasn't
  pub complete : AreWanted plan → (s ≡ status.Ok → AllClean gives plan) × (AllClean gives plan → s ≢ status.TaskFailed)

-- ---- how a run may end

-- What was written is the text of the run, whole; or, where the sink failed and the status is neither Ok nor TaskFailed, some front of the text
-- that some status gives.
abbrev pub WritesReport : Type 0 → List ℕ → List ℕ → Plan → List Logged → Status → Type 0
WritesReport failed old new plan tale s = (new ≡ old ++ run_text plan tale s) ⊎ (failed × (is_plain s ≡ false) × ((met : Status) × WritesFront old new (run_text plan tale met)))
