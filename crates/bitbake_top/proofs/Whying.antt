-- What a run would do, asked before there is one.
use Rattle.std.proofs.Common.{◌≡◌, ◌∙◌, sym, subst, ◌⊎◌, true, ℕ, List, [], inl, inr, IfErr, Result, Ok, Err}
use Rattle.std.proofs.lemmas.Bool.{false≢true}
use Rattle.outside_traits.specs.Store.{IsListing, Store}
use Rattle.meta_model.specs.declared.event.Status.{Status}
use Rattle.meta_model.specs.declared.event.Status.TheVariants as status
use Rattle.meta_model.specs.declared.plan.Plan.{Plan}
use Rattle.answer_model.specs.Answers.{is_refusal}
use Rattle.answer_model.specs.declared.asked.RunRequest.{RunRequest}
use Rattle.answer_model.specs.Asked.{AskRun}
use Rattle.answer_model.specs.Run.{Files, IsRunPlan, IsUnrun}
use Rattle.why_model.specs.Answered.{HasWhy, IsPlanned, Prints, PrintsFront, ToldClash}
use Rattle.run_model.specs.Causes.{IsClashOf}
use Rattle.build_store.specs.declared.fault.StoreFault.{StoreFault}
use Rattle.build_store.specs.declared.fault.StoreFault.TheVariants as fault
use Rattle.why_text.specs.Looks.{IsWhyFault}
use Rattle.bitbake_top.specs.Why.{IsNoRun, IsToldAs, IsWhyStatus}
use Rattle.bitbake_top.proofs.Begun.{one_plan}

-- where there is a plan its statuses fit
pub planned_why : (s : Status) (files : Files) (paths : List (List ℕ)) (request : RunRequest) → IsWhyStatus s → IsPlanned files paths request → HasWhy s files paths request
planned_why status.Ok files paths request is planned = planned
planned_why status.WriteFault files paths request is planned = planned
planned_why status.DiskFault files paths request is planned = planned
planned_why (status.Collision name held given) files paths request is planned = planned
planned_why status.OutOfMemory files paths request is planned = tt
planned_why status.ReadFault files paths request is planned = absurd is
planned_why (status.Metadata file line kind detail) files paths request is planned = absurd is
planned_why (status.Limit kind) files paths request is planned = absurd is
planned_why status.TaskFailed files paths request is planned = absurd is
planned_why status.Usage files paths request is planned = absurd is
planned_why status.BenchFault files paths request is planned = absurd is
planned_why (status.Unsteady pn task held given) files paths request is planned = absurd is
planned_why status.MirrorFault files paths request is planned = absurd is

-- a refusal is answered as it is
refusal_why : (s : Status) (files : Files) (paths : List (List ℕ)) (request : RunRequest) → is_refusal s ≡ true → IsUnrun files paths request s → HasWhy s files paths request
refusal_why status.ReadFault files paths request refusal unrun = tt
refusal_why status.OutOfMemory files paths request refusal unrun = tt
refusal_why (status.Metadata file line kind detail) files paths request refusal (inl is) = let e : status.Metadata file line kind detail ≡ status.OutOfMemory = is in absurd (cc)
refusal_why (status.Metadata file line kind detail) files paths request refusal (inr (inl is)) = let e : status.Metadata file line kind detail ≡ status.ReadFault = is in absurd (cc)
refusal_why (status.Metadata file line kind detail) files paths request refusal (inr (inr refused)) = refused
refusal_why (status.Limit kind) files paths request refusal (inl is) = let e : status.Limit kind ≡ status.OutOfMemory = is in absurd (cc)
refusal_why (status.Limit kind) files paths request refusal (inr (inl is)) = let e : status.Limit kind ≡ status.ReadFault = is in absurd (cc)
refusal_why (status.Limit kind) files paths request refusal (inr (inr refused)) = refused
refusal_why status.Ok files paths request refusal unrun = absurd (false≢true refusal)
refusal_why status.WriteFault files paths request refusal unrun = absurd (false≢true refusal)
refusal_why status.TaskFailed files paths request refusal unrun = absurd (false≢true refusal)
refusal_why status.Usage files paths request refusal unrun = absurd (false≢true refusal)
refusal_why status.DiskFault files paths request refusal unrun = absurd (false≢true refusal)
refusal_why status.BenchFault files paths request refusal unrun = absurd (false≢true refusal)
refusal_why (status.Collision name held given) files paths request refusal unrun = absurd (false≢true refusal)
refusal_why (status.Unsteady pn task held given) files paths request refusal unrun = absurd (false≢true refusal)
refusal_why status.MirrorFault files paths request refusal unrun = absurd (false≢true refusal)

pub refused_why : (s t : Status) (files : Files) (paths : List (List ℕ)) (request : RunRequest) → is_refusal s ≡ true → IsUnrun files paths request s → (t ≡ s) ⊎ (t ≡ status.OutOfMemory) → HasWhy t files paths request
refused_why s t files paths request refusal unrun (inl same) = subst (λ (x : Status). HasWhy x files paths request) (sym same) (refusal_why s files paths request refusal unrun)
refused_why s t files paths request refusal unrun (inr memory) = subst (λ (x : Status). HasWhy x files paths request) (sym memory) tt

-- the request has one plan
pub prints_at : (files : Files) (paths : List (List ℕ)) (request : RunRequest) (one plan : Plan) (held : Store) (old new : List ℕ) → IsListing [] files paths → IsRunPlan files paths request one → IsRunPlan files paths request plan → Prints request one held old new → Prints request plan held old new
prints_at files paths request one plan held old new lists first second prints = subst (λ (p : Plan). Prints request p held old new) (one_plan files paths request one plan lists first second) prints

pub front_at : (files : Files) (paths : List (List ℕ)) (request : RunRequest) (one plan : Plan) (held : Store) (old new : List ℕ) → IsListing [] files paths → IsRunPlan files paths request one → IsRunPlan files paths request plan → PrintsFront request one held old new → PrintsFront request plan held old new
front_at files paths request one plan held old new lists first second prints = subst (λ (p : Plan). PrintsFront request p held old new) (one_plan files paths request one plan lists first second) prints

-- a collision is told truly, as the text's fault says

fault_clash : (plan : Plan) (f : StoreFault) (s : Status) → IsWhyFault plan f → IsToldAs (Err f) s → ToldClash plan s
fault_clash plan fault.Disk s is (inl e) name held given c = let d : s ≡ status.DiskFault = e in let both = sym c ∙ d in absurd (cc)
fault_clash plan (fault.Collision n h g) s is (inl e) name held given c =
    let d : s ≡ status.Collision n h g = e in
    let both : status.Collision n h g ≡ status.Collision name held given = sym d ∙ c in
    let names : n ≡ name = cc in
    let helds : h ≡ held = cc in
    let givens : g ≡ given = cc in
    (is.0, subst (λ x. IsClashOf plan is.0 x held given) names (subst (λ x. IsClashOf plan is.0 n x given) helds (subst (λ x. IsClashOf plan is.0 n h x) givens is.1)))
fault_clash plan (fault.Unsteady pn task h g) s is told name held given c = absurd is
fault_clash plan fault.Memory s is (inl e) name held given c = let d : s ≡ status.OutOfMemory = e in let both = sym c ∙ d in absurd (cc)
fault_clash plan f s is (inr e) name held given c = let both = sym c ∙ e in absurd (cc)

pub told_clash : (plan : Plan) (text : Result (List ℕ) StoreFault) (s : Status) → IsToldAs text s → IfErr text (IsWhyFault plan) → ToldClash plan s
told_clash plan (Ok text) s (inl e) refused name held given c = let both = sym c ∙ e in absurd (cc)
told_clash plan (Ok text) s (inr e) refused name held given c = let both = sym c ∙ e in absurd (cc)
told_clash plan (Err f) s told refused name held given c = fault_clash plan f s refused told name held given c

-- ... of the plan that the request has
pub clash_at : (files : Files) (paths : List (List ℕ)) (request : RunRequest) (one plan : Plan) (s : Status) → IsListing [] files paths → IsRunPlan files paths request one → IsRunPlan files paths request plan → ToldClash one s → ToldClash plan s
clash_at files paths request one plan s lists first second told = subst (λ (p : Plan). ToldClash p s) (one_plan files paths request one plan lists first second) told

-- no refusal is one
pub refused_clash : (plan : Plan) (s t : Status) → is_refusal s ≡ true → (t ≡ s) ⊎ (t ≡ status.OutOfMemory) → ToldClash plan t
refused_clash plan s t refusal (inl same) name held given c =
    absurd (false≢true (subst (λ (x : Status). is_refusal x ≡ true) (sym same ∙ c) refusal))
refused_clash plan s t refusal (inr memory) name held given c = let both = sym c ∙ memory in absurd (cc)

-- nor are words that ask for no run
pub unasked_clash : (plan : Plan) (words : List (List ℕ)) (s t : Status) → IsNoRun words s → (t ≡ s) ⊎ (t ≡ status.OutOfMemory) → ToldClash plan t
unasked_clash plan words s t (inl memory) (inl same) name held given c = let both = sym c ∙ same ∙ memory in absurd (cc)
unasked_clash plan words s t (inr (usage, _)) (inl same) name held given c = let both = sym c ∙ same ∙ usage in absurd (cc)
unasked_clash plan words s t none (inr memory) name held given c = let both = sym c ∙ memory in absurd (cc)

-- words ask for one run alone
pub at_run : (P : RunRequest → Type 0) (words : List (List ℕ)) (one : RunRequest) → AskRun words one → P one → (request : RunRequest) → AskRun words request → P request
at_run P words one first holds request second = subst P (let both = sym first ∙ second in cc) holds
