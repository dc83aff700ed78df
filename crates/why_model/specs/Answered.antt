-- What is answered of a run that isn't begun, but asked about.
use Rattle.std.specs.Prelude.{◌≡◌, ◌++◌, ℕ, List}
use Rattle.tree_model.specs.declared.hash.Hash.{Hash}
use Rattle.outside_traits.specs.Store.{Store}
use Rattle.meta_model.specs.declared.event.Status.{Status}
use Rattle.meta_model.specs.declared.event.Status.TheVariants as status
use Rattle.meta_model.specs.declared.plan.Plan.{Plan}
use Rattle.plan_model.specs.Inputs.{Files}
use Rattle.answer_model.specs.declared.asked.RunRequest.{RunRequest}
use Rattle.answer_model.specs.Plans.{IsPlanRefused}
use Rattle.answer_model.specs.Run.{IsRunPlan}
use Rattle.run_model.specs.Causes.{IsClashOf}
use Rattle.run_model.specs.Written.{WritesFront}
use Rattle.store_model.specs.declared.signature.EquivRow.{EquivRow}
use Rattle.why_model.specs.Why.{IsWhyText}

-- The text is what is told of the request's run, whose plan is this one, over what is held (own rule).
abbrev pub IsWhyOf : RunRequest → Plan → Store → List ℕ → Type 0
IsWhyOf request plan held text = IsWhyText plan held request.options.setscene request.force text

-- The request has a plan.
abbrev pub IsPlanned : Files → List (List ℕ) → RunRequest → Type 0
IsPlanned files paths request = (plan : Plan) × IsRunPlan files paths request plan

-- The status fits: that of a text, of a fault of the disk or the sink, or of a collision only where there is a plan, and a fault of metadata or a limit only
-- where that is the refusal. It may say besides that the layers failed or that memory was wanting, and nothing else.
abbrev pub HasWhy : Status → Files → List (List ℕ) → RunRequest → Type 0
HasWhy status.Ok files paths request = IsPlanned files paths request
HasWhy status.WriteFault files paths request = IsPlanned files paths request
HasWhy status.DiskFault files paths request = IsPlanned files paths request
HasWhy (status.Collision name held given) files paths request = IsPlanned files paths request
HasWhy (status.Metadata file line kind detail) files paths request = IsPlanRefused files paths request.targets request.task request.force (status.Metadata file line kind detail)
HasWhy (status.Limit kind) files paths request = IsPlanRefused files paths request.targets request.task request.force (status.Limit kind)
HasWhy status.ReadFault files paths request = Unit {0}
HasWhy status.OutOfMemory files paths request = Unit {0}
HasWhy _ files paths request = ⊥

-- A collision tells truly of a plan: two texts that differ have one digest, and over some rows one of them is that of a task of the plan.
abbrev pub ToldClash : Plan → Status → Type 0
ToldClash plan s = (name : Hash) (held given : List ℕ) → s ≡ status.Collision name held given → (rows : List EquivRow) × IsClashOf plan rows name held given

-- the text was printed, whole
pub record Prints (request : RunRequest) (plan : Plan) (held : Store) (old new : List ℕ) : Type 0 where
  pub text : List ℕ
  pub is_text : IsWhyOf request plan held text
  pub whole : new ≡ old ++ text

-- or a front of it
pub record PrintsFront (request : RunRequest) (plan : Plan) (held : Store) (old new : List ℕ) : Type 0 where
  pub text : List ℕ
  pub is_text : IsWhyOf request plan held text
  pub front : WritesFront old new text
