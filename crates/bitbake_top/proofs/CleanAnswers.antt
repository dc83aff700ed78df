-- What is answered where the store is to be cleared.
use Rattle.std.proofs.Common.{◌≡◌, ◌≢◌, ◌∙◌, sym, subst, refl, ℕ, ◌⊎◌, inl, inr, Bool, true, false, List, [], Option, None, Some}
use Rattle.std.proofs.lemmas.Bool.{false≢true}
use Rattle.outside_traits.specs.Passes.{Same}
use Rattle.outside_traits.specs.Store.{IsListing}
use Rattle.outside_traits.specs.Story.{Story}
use Rattle.outside_traits.proofs.Runs.{passes_none}
use Rattle.meta_model.specs.declared.event.Status.{Status}
use Rattle.meta_model.specs.declared.event.Status.TheVariants as status
use Rattle.meta_model.specs.declared.plan.Plan.{Plan}
use Rattle.plan_model.specs.Sound.{IsSound}
use Rattle.answer_model.specs.Answers.{is_refusal}
use Rattle.answer_model.specs.declared.asked.RunRequest.{RunRequest}
use Rattle.answer_model.specs.Asked.{AskConfigs, AskRun}
use Rattle.answer_model.specs.Run.{Files, IsRunPlan, IsUnrun}
use Rattle.run_queue.proofs.Known.{sound_ordered}
use Rattle.store_clean.specs.declared.clearing.Cleaned.{Cleaned}
use Rattle.plan_clean.specs.Along.{IsAlong, IsOrdered, opens}
use Rattle.why_model.specs.Answered.{IsPlanned}
use Rattle.bitbake_top.specs.Clean.{AskNoTargets, AskTargets, DidClean, HasClean, IsCleanStatus, MovesBy}
use Rattle.bitbake_top.proofs.Begun.{one_plan}

-- ---- plans

pub ordered_plan : (plan : Plan) → IsSound plan → IsOrdered (Some plan)
ordered_plan plan sound = (sound.few, sound_ordered plan sound)

-- the request has one plan
pub did_at : (files : Files) (paths : List (List ℕ)) (request : RunRequest) (one plan : Plan) (limit : ℕ) (dry : Bool) (disk sink : Type 0) (old new : Story) (cleaned : Option Cleaned) (s : Status) (base now : List ℕ) → IsListing [] files paths → IsRunPlan files paths request one → IsRunPlan files paths request plan
    → DidClean (Some one) limit dry disk sink old new cleaned s base now → DidClean (Some plan) limit dry disk sink old new cleaned s base now
did_at files paths request one plan limit dry disk sink old new cleaned s base now lists first second did = subst (λ (p : Plan). DidClean (Some p) limit dry disk sink old new cleaned s base now) (one_plan files paths request one plan lists first second) did

-- ---- a clearing that wasn't begun

moves_none : (dry : Bool) (plan : Option Plan) (limit : ℕ) (old : Story) → MovesBy dry plan limit old old
moves_none true plan limit old = passes_none old Same (λ i. refl)
moves_none false plan limit old = passes_none old (IsAlong plan limit old.held) (λ i. opens (record { left = λ q is. refl }))

pub not_cleaned : (plan : Option Plan) (limit : ℕ) (dry : Bool) (disk sink : Type 0) (old : Story) (s : Status) (base now : List ℕ) → s ≢ status.Ok → s ≢ status.WriteFault → DidClean plan limit dry disk sink old old None s base now
not_cleaned plan limit dry disk sink old s base now no_ok no_fault = record {
  moments = λ told. moves_none dry plan limit old;
  numbers = λ told. tt;
  whole = λ told is. absurd (no_ok is);
  front = λ told is. absurd (no_fault is);
}

-- neither a refusal nor want of memory in its place is Ok, or a fault of the sink
pub refused_not : (s t u : Status) → is_refusal s ≡ true → is_refusal u ≡ false → (t ≡ s) ⊎ (t ≡ status.OutOfMemory) → t ≢ u
refused_not s t u refusal other (inl same) is = false≢true (sym other ∙ subst (λ (x : Status). is_refusal x ≡ true) (sym same ∙ is) refusal)
refused_not s t u refusal other (inr memory) is = false≢true (sym other ∙ subst (λ (x : Status). is_refusal x ≡ true) (sym memory ∙ is) refl)

pub refused_clean : (plan : Option Plan) (limit : ℕ) (dry : Bool) (disk sink : Type 0) (old : Story) (s t : Status) (base now : List ℕ) → is_refusal s ≡ true → (t ≡ s) ⊎ (t ≡ status.OutOfMemory) → DidClean plan limit dry disk sink old old None t base now
refused_clean plan limit dry disk sink old s t base now refusal told =
    not_cleaned plan limit dry disk sink old t base now (refused_not s t status.Ok refusal refl told) (refused_not s t status.WriteFault refusal refl told)

-- ---- statuses

pub planned_status : (s : Status) (files : Files) (paths : List (List ℕ)) (request : RunRequest) → IsCleanStatus s → IsPlanned files paths request → HasClean s files paths request
planned_status status.Ok files paths request is planned = planned
planned_status status.WriteFault files paths request is planned = planned
planned_status status.DiskFault files paths request is planned = planned
planned_status status.OutOfMemory files paths request is planned = tt
planned_status status.ReadFault files paths request is planned = absurd is
planned_status (status.Collision name held given) files paths request is planned = absurd is
planned_status (status.Metadata file line kind detail) files paths request is planned = absurd is
planned_status (status.Limit kind) files paths request is planned = absurd is
planned_status status.TaskFailed files paths request is planned = absurd is
planned_status status.Usage files paths request is planned = absurd is
planned_status status.BenchFault files paths request is planned = absurd is
planned_status (status.Unsteady pn task held given) files paths request is planned = absurd is
planned_status status.MirrorFault files paths request is planned = absurd is

refusal_status : (s : Status) (files : Files) (paths : List (List ℕ)) (request : RunRequest) → is_refusal s ≡ true → IsUnrun files paths request s → HasClean s files paths request
refusal_status status.ReadFault files paths request refusal unrun = tt
refusal_status status.OutOfMemory files paths request refusal unrun = tt
refusal_status (status.Metadata file line kind detail) files paths request refusal (inl is) = let e : status.Metadata file line kind detail ≡ status.OutOfMemory = is in absurd (cc)
refusal_status (status.Metadata file line kind detail) files paths request refusal (inr (inl is)) = let e : status.Metadata file line kind detail ≡ status.ReadFault = is in absurd (cc)
refusal_status (status.Metadata file line kind detail) files paths request refusal (inr (inr refused)) = refused
refusal_status (status.Limit kind) files paths request refusal (inl is) = let e : status.Limit kind ≡ status.OutOfMemory = is in absurd (cc)
refusal_status (status.Limit kind) files paths request refusal (inr (inl is)) = let e : status.Limit kind ≡ status.ReadFault = is in absurd (cc)
refusal_status (status.Limit kind) files paths request refusal (inr (inr refused)) = refused
refusal_status status.Ok files paths request refusal unrun = absurd (false≢true refusal)
refusal_status status.WriteFault files paths request refusal unrun = absurd (false≢true refusal)
refusal_status status.TaskFailed files paths request refusal unrun = absurd (false≢true refusal)
refusal_status status.Usage files paths request refusal unrun = absurd (false≢true refusal)
refusal_status status.DiskFault files paths request refusal unrun = absurd (false≢true refusal)
refusal_status status.BenchFault files paths request refusal unrun = absurd (false≢true refusal)
refusal_status (status.Collision name held given) files paths request refusal unrun = absurd (false≢true refusal)
refusal_status (status.Unsteady pn task held given) files paths request refusal unrun = absurd (false≢true refusal)
refusal_status status.MirrorFault files paths request refusal unrun = absurd (false≢true refusal)

pub refused_status : (s t : Status) (files : Files) (paths : List (List ℕ)) (request : RunRequest) → is_refusal s ≡ true → IsUnrun files paths request s → (t ≡ s) ⊎ (t ≡ status.OutOfMemory) → HasClean t files paths request
refused_status s t files paths request refusal unrun (inl same) = subst (λ (x : Status). HasClean x files paths request) (sym same) (refusal_status s files paths request refusal unrun)
refused_status s t files paths request refusal unrun (inr memory) = subst (λ (x : Status). HasClean x files paths request) (sym memory) tt

abbrev IsFaulty : Status → Type 0
IsFaulty status.Ok = ⊥
IsFaulty status.WriteFault = ⊥
IsFaulty s = Unit {0}

pub faulty_not : (s : Status) → IsFaulty s → (s ≢ status.Ok) × (s ≢ status.WriteFault)
faulty_not s faulty = (λ ok. subst IsFaulty ok faulty, λ failed. subst IsFaulty failed faulty)

-- ---- words

pub unasked_usage : (words : List (List ℕ)) (s t : Status) → AskNoTargets words s → (t ≡ s) ⊎ (t ≡ status.OutOfMemory) → (request : RunRequest) → AskTargets words request → t ≢ status.Usage
unasked_usage words s t (inl memory) (inl same) request asks usage = let e : status.OutOfMemory ≡ status.Usage = sym (same ∙ memory) ∙ usage in absurd (cc)
unasked_usage words s t (inr (is, none)) (inl same) request asks usage = none request asks
unasked_usage words s t none (inr memory) request asks usage = let e : status.OutOfMemory ≡ status.Usage = sym memory ∙ usage in absurd (cc)

unasked_faulty : (words : List (List ℕ)) (s t : Status) → AskNoTargets words s → (t ≡ s) ⊎ (t ≡ status.OutOfMemory) → IsFaulty t
unasked_faulty words s t (inl memory) (inl same) = subst IsFaulty (sym (same ∙ memory)) tt
unasked_faulty words s t (inr (is, none)) (inl same) = subst IsFaulty (sym (same ∙ is)) tt
unasked_faulty words s t none (inr memory) = subst IsFaulty (sym memory) tt

pub unasked_clean : (words : List (List ℕ)) (s t : Status) → AskNoTargets words s → (t ≡ s) ⊎ (t ≡ status.OutOfMemory) → (plan : Option Plan) (limit : ℕ) (dry : Bool) (disk sink : Type 0) (old : Story) (base now : List ℕ) → DidClean plan limit dry disk sink old old None t base now
unasked_clean words s t none told plan limit dry disk sink old base now =
    let not = faulty_not t (unasked_faulty words s t none told) in
    not_cleaned plan limit dry disk sink old t base now not.0 not.1

pub unasked_status : (words : List (List ℕ)) (s t : Status) → AskNoTargets words s → (t ≡ s) ⊎ (t ≡ status.OutOfMemory) → (files : Files) (paths : List (List ℕ)) (request : RunRequest) → AskTargets words request → HasClean t files paths request
unasked_status words s t (inl memory) (inl same) files paths request asks = subst (λ (x : Status). HasClean x files paths request) (sym (same ∙ memory)) tt
unasked_status words s t (inr (is, none)) (inl same) files paths request asks = absurd (none request asks)
unasked_status words s t none (inr memory) files paths request asks = subst (λ (x : Status). HasClean x files paths request) (sym memory) tt

-- words ask for one run alone
pub at_targets : (P : RunRequest → Type 0) (words : List (List ℕ)) (one : RunRequest) → AskTargets words one → P one → (request : RunRequest) → AskTargets words request → P request
at_targets P words one first holds request second = by first.asks second.asks
  where
    by : AskRun words one ⊎ AskConfigs words one → AskRun words request ⊎ AskConfigs words request → P request
    by (inl a) (inl b) = subst P (let both = sym a ∙ b in cc) holds
    by (inr a) (inr b) = subst P (let both = sym a ∙ b in cc) holds
    by (inl a) (inr b) = let both = sym a ∙ b in absurd (cc)
    by (inr a) (inl b) = let both = sym a ∙ b in absurd (cc)
