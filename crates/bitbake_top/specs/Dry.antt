-- The text of a dry run.
use Rattle.std.specs.Prelude.{◌≡◌, ℕ, List}
use Rattle.meta_model.specs.declared.plan.Plan.{Plan}
use Rattle.plan_model.specs.Inputs.{Files}
use Rattle.run_model.specs.Texts.{dry_text}
use Rattle.answer_model.specs.declared.asked.DryRequest.{DryRequest}
use Rattle.answer_model.specs.Dry.{IsDryPlan}

-- The text is that of the request's plan (BitBake User Manual, "The BitBake Command", option `-n`; the text is an own rule).
pub record IsDryText (files : Files) (paths : List (List ℕ)) (request : DryRequest) (text : List ℕ) : Type 0 where
  pub plan : Plan
  pub is_plan : IsDryPlan files paths request plan
  pub is_text : text ≡ dry_text plan
