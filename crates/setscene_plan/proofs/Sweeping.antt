-- What is put into sets of tasks.
use Rattle.std.proofs.Common.{◌≡◌, ◌≢◌, sym, ◌∙◌, ap, subst, refl, ℕ, zero, suc, ◌+◌, ◌<◌, ◌≤◌, Bool, true, false, List, [], ◌∷◌, ◌++◌, All, Contains, length, get_or, set, take, slice_get, Some, ◌⊎◌, inl, inr, length-set, get_or-set_same, arith}
use Rattle.std.proofs.lemmas.Bool.{cases_eq, cases_lt}
use Rattle.std.proofs.lemmas.List.{take_all, take_more}
use Rattle.std.proofs.lemmas.List.Elements.{Contains-push, Contains-push_cases, Contains-append_left, Contains-get_or}
use Rattle.std.proofs.lemmas.Option.{slice_get-get_or}
use Rattle.meta_model.specs.declared.event.Avail.{Avail}
use Rattle.meta_model.specs.declared.event.Avail.TheVariants.{Missing, Work, Object}
use Rattle.meta_model.specs.declared.plan.Plan.{Plan}
use Rattle.meta_model.specs.declared.plan.PlanTask.{PlanTask}
use Rattle.run_core.specs.Need.{AreOrdered}
use Rattle.tale_model.specs.Need.{IsIn, IsClosed, IsNeed, deps_in, deps_of}
use Rattle.setscene_plan.specs.Sets.{Adds, IsForced, IsBelow}

-- one task is put
put_here : (s : List Bool) (x : ℕ) → x < length s → IsIn (set s x true) x
put_here s x lt = slice_get-get_or (set s x true) x false (omega (arith, lt, length-set s x true)) ∙ ap Some (get_or-set_same s x true false lt)

elsewhere : (s : List Bool) (x t : ℕ) → t ≢ x → slice_get (set s x true) t ≡ slice_get s t
elsewhere [] x t ne = refl
elsewhere (b ∷ bs) zero zero ne = absurd (ne refl)
elsewhere (b ∷ bs) zero (suc t) ne = refl
elsewhere (b ∷ bs) (suc x) zero ne = refl
elsewhere (b ∷ bs) (suc x) (suc t) ne = elsewhere bs x t (λ e. ne (ap suc e))

pub adds_one : (P Q : ℕ → Type 0) (old mid : List Bool) (x : ℕ) → Adds P old mid → x < length mid → Q x → ((t : ℕ) → P t → Q t) → ((t : ℕ) → Q t → P t ⊎ (t ≡ x)) → Adds Q old (set mid x true)
adds_one P Q old mid x adds lt this more back = record {
  long = length-set mid x true ∙ adds.long;
  kept = λ t h. keeps t (adds.kept t h);
  put = λ t q. elim (back t q) [ inl p ↦ keeps t (adds.put t p) | inr same ↦ subst (IsIn (set mid x true)) (sym same) (put_here mid x lt) ];
  only = λ t h. elim (cases_eq t x) [
    | inl same ↦ inr (subst Q (sym same) this)
    | inr ne ↦ elim (adds.only t (sym (elsewhere mid x t ne) ∙ h)) [ inl old_one ↦ inl old_one | inr p ↦ inr (more t p) ]
  ];
}
  where
    keeps : (t : ℕ) → IsIn mid t → IsIn (set mid x true) t
    keeps t h = elim (cases_eq t x) [
      | inl same ↦ subst (IsIn (set mid x true)) (sym same) (put_here mid x lt)
      | inr ne ↦ elsewhere mid x t ne ∙ h
    ]

-- nothing is put
pub adds_none : (P : ℕ → Type 0) (old : List Bool) → ((t : ℕ) → P t → ⊥) → Adds P old old
adds_none P old none = record { long = refl; kept = λ t h. h; put = λ t p. absurd (none t p); only = λ t h. inl h }

-- the same by another name
pub adds_same : (P Q : ℕ → Type 0) (old new : List Bool) → Adds P old new → ((t : ℕ) → P t → Q t) → ((t : ℕ) → Q t → P t) → Adds Q old new
adds_same P Q old new adds on back = record {
  long = adds.long;
  kept = adds.kept;
  put = λ t q. adds.put t (back t q);
  only = λ t h. elim (adds.only t h) [ inl o ↦ inl o | inr p ↦ inr (on t p) ];
}

pub all_more : (tasks : List ℕ) (i x : ℕ) (old mid : List Bool) → i < length tasks → get_or tasks i 0 ≡ x → x < length mid → Adds (Contains (take i tasks)) old mid → Adds (Contains (take (i + 1) tasks)) old (set mid x true)
all_more tasks i x old mid lt is fits adds =
    let grown : take (i + 1) tasks ≡ take i tasks ++ x ∷ [] = take_more tasks i 0 lt ∙ ap (λ y. take i tasks ++ y ∷ []) is in
    rw grown (adds_one (Contains (take i tasks)) (Contains (take i tasks ++ x ∷ [])) old mid x adds fits (Contains-push (take i tasks) x)
    (λ t h. Contains-append_left (take i tasks) (x ∷ []) t h)
    (λ t h. elim (Contains-push_cases (take i tasks) x t h) [ inl front ↦ inl front | inr same ↦ inr (sym same) ]))

pub all_put : (tasks : List ℕ) (i : ℕ) (old new : List Bool) → length tasks ≤ i → Adds (Contains (take i tasks)) old new → Adds (Contains tasks) old new
all_put tasks i old new le adds = subst (λ xs. Adds (Contains xs) old new) (take_all i tasks le) adds

-- the tasks below a place that run whenever they are needed
abbrev pub ForcedBelow : List PlanTask → ℕ → ℕ → Type 0
ForcedBelow tasks i t = (t < i) × IsForced tasks t

-- what a task needs directly is put, where it belongs to the set and its output is missing

pub below_within : (tasks : List PlanTask) (t n : ℕ) → AreOrdered tasks → t < n → All (λ d. d < n) (deps_of tasks t)
below_within tasks t n ordered lt = λ k e within. omega (arith, ordered t k e within, lt)

pub below_put : (tasks : List PlanTask) (avail : List Avail) (old new : List Bool) (t : ℕ) → IsIn old t → slice_get avail t ≡ Some Missing → Adds (Contains (deps_of tasks t)) old new → Adds (IsBelow tasks avail old t) old new
below_put tasks avail old new t member lacks adds = adds_same (Contains (deps_of tasks t)) (IsBelow tasks avail old t) old new adds
    (λ d held. (member, lacks, held))
    (λ d h. h.2)

pub below_work : (tasks : List PlanTask) (avail : List Avail) (old : List Bool) (t : ℕ) → slice_get avail t ≡ Some Work → Adds (IsBelow tasks avail old t) old old
below_work tasks avail old t is = adds_none (IsBelow tasks avail old t) old (λ d h. let e : Some Work ≡ Some Missing = sym is ∙ h.1 in cc)

pub below_object : (tasks : List PlanTask) (avail : List Avail) (old : List Bool) (t : ℕ) → slice_get avail t ≡ Some Object → Adds (IsBelow tasks avail old t) old old
below_object tasks avail old t is = adds_none (IsBelow tasks avail old t) old (λ d h. let e : Some Object ≡ Some Missing = sym is ∙ h.1 in cc)

pub there : (avail : List Avail) (t : ℕ) (a : Avail) → t < length avail → get_or avail t Missing ≡ a → slice_get avail t ≡ Some a
there avail t a lt e = slice_get-get_or avail t Missing lt ∙ ap Some e

pub is_in : (s : List Bool) (t : ℕ) → t < length s → get_or s t false ≡ true → IsIn s t
is_in s t lt e = slice_get-get_or s t false lt ∙ ap Some e

-- the dependencies of a task that was read
pub deps_read : (tasks : List PlanTask) (t : ℕ) (task : PlanTask) (deps : List ℕ) → t < length tasks → deps ≡ (get_or tasks t task).deps → deps ≡ deps_of tasks t
deps_read tasks t task deps lt is = is ∙ sym (ap (λ o. deps_in o) (slice_get-get_or tasks t task lt))

-- The sweep so far: the set has the targets and what runs whenever it is needed, with each member from this place on what it
-- needs directly, and nothing that a closed set lacks, whatever is kept of the tasks below this place.
pub record IsSwept (plan : Plan) (avail : List Avail) (need : List Bool) (place : ℕ) : Type 0 where
  pub long : length need ≡ length plan.tasks
  pub targets : All (IsIn need) plan.targets
  pub nostamp : (t : ℕ) (task : PlanTask) → slice_get plan.tasks t ≡ Some task → task.nostamp ≡ true → IsIn need t
  pub done : (t : ℕ) → place ≤ t → IsIn need t → slice_get avail t ≡ Some Missing → All (IsIn need) (deps_of plan.tasks t)
  pub least : (seen : List Avail) → ((t : ℕ) → place ≤ t → slice_get seen t ≡ slice_get avail t) → (other : List Bool) → IsClosed plan seen other → (t : ℕ) → IsIn need t → IsIn other t

pub swept_next : (plan : Plan) (avail next : List Avail) (need new : List Bool) (place : ℕ) → AreOrdered plan.tasks → IsSwept plan avail need (suc place) → ((t : ℕ) → t ≢ place → slice_get next t ≡ slice_get avail t) → Adds (IsBelow plan.tasks next need place) need new → IsSwept plan next new place
swept_next plan avail next need new place ordered swept elsewhere adds = record {
  long = adds.long ∙ swept.long;
  targets = λ k d lt. adds.kept (get_or plan.targets k d) (swept.targets k d lt);
  nostamp = λ t task is forced. adds.kept t (swept.nostamp t task is forced);
  done = λ t le member lacks. closed_at t le lacks (member_before t le (adds.only t member)) (cases_lt place t);
  least = λ seen agree other closed t member.
      let before : (u : ℕ) → suc place ≤ u → slice_get seen u ≡ slice_get avail u = λ u le. agree u (omega (arith, le)) ∙ elsewhere u (λ e. omega (arith, e, le)) in
      elim (adds.only t member) [
        | inl old ↦ swept.least seen before other closed t old
        | inr below ↦ subst (IsIn other) below.2.2 (closed.dependencies place (swept.least seen before other closed place below.0) (agree place (omega arith) ∙ below.1) below.2.0 t below.2.1)
      ];
}
  where
    member_before : (t : ℕ) → place ≤ t → IsIn need t ⊎ IsBelow plan.tasks next need place t → IsIn need t
    member_before t le (inl before) = before
    member_before t le (inr below) =
        let small : t < place = subst (λ x. x < place) below.2.2 (ordered place below.2.0 t below.2.1) in
        absurd (omega (arith, small, le))

    closed_at : (t : ℕ) → place ≤ t → slice_get next t ≡ Some Missing → IsIn need t → (place < t) ⊎ (t ≤ place) → All (IsIn new) (deps_of plan.tasks t)
    closed_at t le lacks member (inl above) = λ k d lt. adds.kept (get_or (deps_of plan.tasks t) k d) (swept.done t (omega (arith, above)) member (sym (elsewhere t (λ e. omega (arith, e, above))) ∙ lacks) k d lt)
    closed_at t le lacks member (inr at) =
        let same : place ≡ t = omega (arith, le, at) in
        λ k d lt. adds.put (get_or (deps_of plan.tasks t) k d)
        (subst (IsIn need) (sym same) member, ap (slice_get next) same ∙ lacks, subst (λ x. Contains (deps_of plan.tasks x) (get_or (deps_of plan.tasks t) k d)) (sym same) (Contains-get_or (deps_of plan.tasks t) k d lt))

pub swept_all : (plan : Plan) (avail : List Avail) (need : List Bool) → IsSwept plan avail need 0 → IsNeed plan avail need
swept_all plan avail need swept = record {
  long = swept.long;
  closed = record { targets = swept.targets; nostamp = swept.nostamp; dependencies = λ t member lacks. swept.done t (omega arith) member lacks };
  least = λ other. swept.least avail (λ t le. refl) other;
}

-- the same where what is kept doesn't change
pub swept_step : (plan : Plan) (avail : List Avail) (need new : List Bool) (place : ℕ) → AreOrdered plan.tasks → IsSwept plan avail need (suc place) → Adds (IsBelow plan.tasks avail need place) need new → IsSwept plan avail new place
swept_step plan avail need new place ordered swept adds = swept_next plan avail avail need new place ordered swept (λ t ne. refl) adds
