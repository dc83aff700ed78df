-- Which plan a run has, why others aren't begun, and what a run writes.
use Rattle.std.specs.Prelude.{◌≡◌, ◌⊎◌, ℕ, Bool, true, false, List, [], ◌∷◌, ◌++◌, Option, Contains}
use Rattle.outside_traits.specs.Bench.{Gives}
use Rattle.meta_model.specs.declared.event.Logged.{Logged}
use Rattle.meta_model.specs.declared.event.Status.{Status}
use Rattle.meta_model.specs.declared.event.Status.TheVariants as status
use Rattle.meta_model.specs.declared.plan.Options.{Options}
use Rattle.meta_model.specs.declared.plan.Plan.{Plan}
use Rattle.run_model.specs.Ends.{is_plain}
use Rattle.run_model.specs.Report.{report}
use Rattle.run_model.specs.Texts.{fault_text, plan_text}
use Rattle.run_model.specs.Written.{WritesFront}
use Rattle.run_model.specs.Runs.{Runs}
use Rattle.run_model.specs.Build.{AllClean, MayEndSo, RanPrinted}
use Rattle.run_model.specs.Outcome.{EndsAs}
use Rattle.run_model.specs.Seated.{IsSeated}
use Rattle.answer_model.specs.Answers.{is_refusal}
use Rattle.answer_model.specs.Plans.{HasPlan, IsPlanRefused}
use Rattle.answer_model.specs.declared.asked.RunRequest.{RunRequest}

-- what each path of the project holds
abbrev pub Files : Type 0
Files = List ℕ → Option (List ℕ)

-- The request has this plan. The paths are those of all files.
abbrev pub IsRunPlan : Files → List (List ℕ) → RunRequest → Plan → Type 0
IsRunPlan files paths request plan = HasPlan files paths request.targets request.task request.force plan

-- the request has a plan, and the clean build of each of its tasks succeeds
pub record HasBuild (files : Files) (paths : List (List ℕ)) (request : RunRequest) (gives : Gives) : Type 0 where
  pub plan : Plan
  pub planned : IsRunPlan files paths request plan
  pub clean : AllClean gives plan

-- why a request isn't run: memory ran out, the layers failed, or its targets have no plan
abbrev pub IsUnrun : Files → List (List ℕ) → RunRequest → Status → Type 0
IsUnrun files paths request s = (s ≡ status.OutOfMemory) ⊎ ((s ≡ status.ReadFault) ⊎ IsPlanRefused files paths request.targets request.task request.force s)

-- A run was begun: it has one plan and one tale. Under Ok the tale leaves nothing to do and no task failed in it; where the status says that
-- a task failed, one did; and under neither a task broke off in it. At most as many tasks ran at once as the plan
-- has threads.
pub record IsBegun (options : Options) (plans : List Plan) (tales : List (List Logged)) (s : Status) : Type 0 where
  pub plan : Plan
  pub tale : List Logged
  pub plans_are : plans ≡ plan ∷ []
  pub tales_are : tales ≡ tale ∷ []
  pub ends : EndsAs plan options tale s
  pub seated : IsSeated plan tale

-- The status of a call fits its tales: no run was begun, and it is a refusal of metadata, a limit, a failure of the layers or want of
-- memory, or the plan's text failed; or one was begun.
abbrev pub Concludes : Options → List Plan → List (List Logged) → Status → Type 0
Concludes options plans tales s = ((tales ≡ []) × ((is_refusal s ≡ true) ⊎ (s ≡ status.WriteFault))) ⊎ IsBegun options plans tales s

-- whether the status is one of a run that was begun: not that words or metadata are refused, that a limit was passed, or that the layers failed
abbrev pub is_run_status : Status → Bool
is_run_status status.Usage = false
is_run_status (status.Metadata file line kind detail) = false
is_run_status (status.Limit kind) = false
is_run_status status.ReadFault = false
is_run_status _ = true

-- The status isn't one that may come although no device failed and the clean build succeeds: want of memory, or two signatures with one
-- digest.
abbrev pub IsCertain : Status → Type 0
IsCertain status.OutOfMemory = ⊥
IsCertain (status.Collision name held given) = ⊥
IsCertain _ = Unit {0}

-- Each fault of a call has its cause. A refusal of words, metadata or a limit has it in the words and the files, want of memory has none.
abbrev pub HasCause : Type 0 → ℕ → Type 0 → Type 0 → Status → Type 0
HasCause layers disk bench sink status.ReadFault = layers
HasCause layers disk bench sink status.Usage = Unit {0}
HasCause layers disk bench sink (status.Metadata file line kind detail) = Unit {0}
HasCause layers disk bench sink (status.Limit kind) = Unit {0}
HasCause layers disk bench sink s = MayEndSo disk bench sink s

-- The text of a call was written behind the base: that of its plan, its tale and its status, whole; or where the sink failed and the status is
-- neither Ok nor TaskFailed, a front of such a text, of some status. Without a tale it is the text of the refusal, or where the sink failed a front of that or of the plan's text.
abbrev pub WritesCall : Type 0 → List ℕ → List ℕ → List Plan → List (List Logged) → Status → Type 0
WritesCall failed base now plans [] s = (now ≡ base ++ fault_text s) ⊎ (failed × (WritesFront base now (fault_text s) ⊎ ((plan : Plan) × Contains plans plan × WritesFront base now (plan_text plan))))
WritesCall failed base now [] (tale ∷ more) s = ⊥
WritesCall failed base now (plan ∷ plans) (tale ∷ more) s = (now ≡ base ++ report plan tale s) ⊎ (failed × (is_plain s ≡ false) × ((met : Status) × WritesFront base now (report plan tale met)))

-- What ran had been printed: without a tale no bench ran anything; else each ran the scripts of just those tasks that its seat starts in a
-- front of the tale, whose lines stand whole behind the text of the plan.
abbrev pub RanPrintedCall : List Plan → List (List Logged) → List Runs → List Runs → List ℕ → List ℕ → Type 0
RanPrintedCall plans [] before now old new = now ≡ before
RanPrintedCall [] (tale ∷ more) before now old new = ⊥
RanPrintedCall (plan ∷ plans) (tale ∷ more) before now old new = RanPrinted plan tale before now (old ++ plan_text plan) new
