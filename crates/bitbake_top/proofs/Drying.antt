-- Dry runs.
use Rattle.std.proofs.Common.{◌≡◌, ◌≢◌, ◌∙◌, ap, refl, sym, subst, ◌⊎◌, true, false, ℕ, List, [], Result, Ok, Err, inl, inr}
use Rattle.std.specs.Prelude.{◌↔◌, IfOk, Option}
use Rattle.std.proofs.lemmas.Bool.{false≢true}
use Rattle.meta_model.specs.declared.event.Status.{Status}
use Rattle.meta_model.specs.declared.event.Status.TheVariants as status
use Rattle.meta_model.specs.declared.plan.Plan.{Plan}
use Rattle.outside_traits.specs.Store.{IsListing}
use Rattle.run_model.specs.Texts.{dry_text}
use Rattle.plan_model.specs.Inputs.{Files}
use Rattle.answer_model.specs.Answers.{is_refusal}
use Rattle.answer_model.specs.Plans.{HasPlan}
use Rattle.target_plan.specs.Plans.{IsNoPlan}
use Rattle.target_plan.proofs.OnePlan.{plans_are_one, plan_not_refused}
use Rattle.answer_model.specs.declared.asked.Asked.{Asked}
use Rattle.answer_model.specs.declared.asked.Asked.TheVariants.{Plans}
use Rattle.answer_model.specs.declared.asked.DryRequest.{DryRequest}
use Rattle.answer_model.specs.Asked.{AskDry, asked_of}
use Rattle.answer_model.specs.Dry.{HasDry, IsDryPlan, IsDryRefused}
use Rattle.bitbake_top.specs.Dry.{IsDryText}

-- a request has one text
pub one_text : (files : Files) (paths : List (List ℕ)) (request : DryRequest) (text : List ℕ) (plan : Plan) → IsListing [] files paths → IsDryText files paths request text → IsDryPlan files paths request plan → text ≡ dry_text plan
one_text files paths request text plan l t p = t.is_text ∙ ap dry_text (plans_are_one files paths paths request.targets request.task false l l t.plan plan t.is_plan p)

-- the text that was made is that of the plan that was found
pub text_found : {E : Type 0} (told : Type 0) (files : Files) (request : DryRequest) (targets : List (List ℕ)) (task : Option (List ℕ)) (plan : Plan) (made : Result (List ℕ) E) (r : Result (List ℕ) Status)
    → targets ≡ request.targets → task ≡ request.task → (told → (paths : List (List ℕ)) → IsListing [] files paths → HasPlan files paths targets task false plan)
    → IfOk made (λ text. text ≡ dry_text plan) → IfOk r (λ text. made ≡ Ok text) → IfOk r (λ text. told → (paths : List (List ℕ)) → IsListing [] files paths → IsDryText files paths request text)
text_found told files request targets task plan made (Ok text) same_targets same_task has texts is = λ t paths lists. record {
  plan = plan;
  is_plan = subst (λ (w : List (List ℕ)). HasPlan files paths w request.task false plan) same_targets (subst (λ (k : Option (List ℕ)). HasPlan files paths targets k false plan) same_task (has t paths lists));
  is_text = subst (λ (m : Result (List ℕ) _). IfOk m (λ (x : List ℕ). x ≡ dry_text plan)) is texts;
}
text_found told files request targets task plan made (Err s) same_targets same_task has texts is = tt

-- the same of the lack of a plan
pub no_plan_at : (files : Files) (paths : List (List ℕ)) (request : DryRequest) (targets : List (List ℕ)) (task : Option (List ℕ)) (s : Status) → targets ≡ request.targets → task ≡ request.task
    → IsNoPlan files paths targets task false s → IsNoPlan files paths request.targets request.task false s
no_plan_at files paths request targets task s same_targets same_task none =
    subst (λ (w : List (List ℕ)). IsNoPlan files paths w request.task false s) same_targets (subst (λ (k : Option (List ℕ)). IsNoPlan files paths targets k false s) same_task none)

-- where there is a text to print, there is a plan
pub dry_printed : (s : Status) (files : Files) (paths : List (List ℕ)) (request : DryRequest) (text : List ℕ) → (s ≡ status.Ok) ⊎ (s ≡ status.WriteFault) → IsDryText files paths request text → HasDry s files paths request
dry_printed s files paths request text (inl ok) t = subst (λ (x : Status). HasDry x files paths request) (sym ok) (t.plan, t.is_plan)
dry_printed s files paths request text (inr failed) t = subst (λ (x : Status). HasDry x files paths request) (sym failed) (t.plan, t.is_plan)

-- a refusal is answered as it is
refused_dry : (s : Status) (files : Files) (paths : List (List ℕ)) (request : DryRequest) → is_refusal s ≡ true → IsDryRefused files paths request s → HasDry s files paths request
refused_dry status.ReadFault files paths request refusal r = tt
refused_dry status.OutOfMemory files paths request refusal r = tt
refused_dry (status.Metadata file line kind detail) files paths request refusal r = r
refused_dry (status.Limit kind) files paths request refusal r = r
refused_dry status.Ok files paths request refusal r = absurd (false≢true refusal)
refused_dry status.WriteFault files paths request refusal r = absurd (false≢true refusal)
refused_dry status.TaskFailed files paths request refusal r = absurd (false≢true refusal)
refused_dry status.Usage files paths request refusal r = absurd (false≢true refusal)
refused_dry status.DiskFault files paths request refusal r = absurd (false≢true refusal)
refused_dry status.BenchFault files paths request refusal r = absurd (false≢true refusal)
refused_dry (status.Collision name held given) files paths request refusal r = absurd (false≢true refusal)
refused_dry (status.Unsteady pn task held given) files paths request refusal r = absurd (false≢true refusal)
refused_dry status.MirrorFault files paths request refusal r = absurd (false≢true refusal)

pub dry_refused : (s t : Status) (files : Files) (paths : List (List ℕ)) (request : DryRequest) → is_refusal s ≡ true → IsNoPlan files paths request.targets request.task false s → (t ≡ s) ⊎ (t ≡ status.OutOfMemory) → HasDry t files paths request
dry_refused s t files paths request refusal none (inr memory) = subst (λ (x : Status). HasDry x files paths request) (sym memory) tt
dry_refused s t files paths request refusal (inl (inl memory)) (inl same) = subst (λ (x : Status). HasDry x files paths request) (sym (same ∙ memory)) tt
dry_refused s t files paths request refusal (inl (inr read)) (inl same) = subst (λ (x : Status). HasDry x files paths request) (sym (same ∙ read)) tt
dry_refused s t files paths request refusal (inr refused) (inl same) = subst (λ (x : Status). HasDry x files paths request) (sym same) (refused_dry s files paths request refusal refused)

-- words ask for one dry run alone
same_request : (words : List (List ℕ)) (one other : DryRequest) → AskDry words one → AskDry words other → one ≡ other
same_request words one other first second = let both = sym first ∙ second in cc

-- the words ask for the dry run that was handed on
pub asks_dry : (words : List (List ℕ)) (asked : Asked) (request : DryRequest) → asked_of words ≡ Ok asked → asked ≡ Plans request → AskDry words request
asks_dry words asked request asks is = asks ∙ ap Ok is

-- what holds of the dry run that the words ask for holds of each such one
pub at_dry : (P : DryRequest → Type 0) (words : List (List ℕ)) (one : DryRequest) → AskDry words one → P one → (request : DryRequest) → AskDry words request → P request
at_dry P words one first holds request second = subst P (same_request words one request first second) holds

-- Where neither the layers nor the sink failed and memory wasn't wanting, the answer is Ok exactly where there is a plan.
pub dry_exactly : (s : Status) (files : Files) (paths : List (List ℕ)) (request : DryRequest) → IsListing [] files paths → HasDry s files paths request
    → s ≢ status.ReadFault → s ≢ status.WriteFault → s ≢ status.OutOfMemory → (s ≡ status.Ok) ↔ ((plan : Plan) × IsDryPlan files paths request plan)
dry_exactly status.Ok files paths request l has no_read no_write no_memory = ((λ e. has), (λ p. refl))
dry_exactly status.WriteFault files paths request l has no_read no_write no_memory = absurd (no_write refl)
dry_exactly status.ReadFault files paths request l has no_read no_write no_memory = absurd (no_read refl)
dry_exactly status.OutOfMemory files paths request l has no_read no_write no_memory = absurd (no_memory refl)
dry_exactly (status.Metadata file line kind detail) files paths request l has no_read no_write no_memory =
    ((λ e. absurd (cc)), (λ p. absurd (plan_not_refused files paths paths request.targets request.task false l l p.0 (status.Metadata file line kind detail) p.1 has)))
dry_exactly (status.Limit kind) files paths request l has no_read no_write no_memory =
    ((λ e. absurd (cc)), (λ p. absurd (plan_not_refused files paths paths request.targets request.task false l l p.0 (status.Limit kind) p.1 has)))
dry_exactly status.TaskFailed files paths request l has no_read no_write no_memory = absurd has
dry_exactly status.Usage files paths request l has no_read no_write no_memory = absurd has
dry_exactly status.DiskFault files paths request l has no_read no_write no_memory = absurd has
dry_exactly status.BenchFault files paths request l has no_read no_write no_memory = absurd has
dry_exactly (status.Collision name held given) files paths request l has no_read no_write no_memory = absurd has
dry_exactly (status.Unsteady pn task held given) files paths request l has no_read no_write no_memory = absurd has
dry_exactly status.MirrorFault files paths request l has no_read no_write no_memory = absurd has
