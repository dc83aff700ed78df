-- Two views of a run, and two readings of a failure.
use Rattle.std.proofs.Common.{take, ◌≡◌, sym, ◌∙◌, ap, subst, refl, ℕ, zero, suc, ◌<◌, ◌≤◌, Bool, true, false, List, [], ◌∷◌, ◌++◌, length, slice_get, Some, None, inl, inr, arith}
use Rattle.std.proofs.lemmas.Bool.{cases_lt}
use Rattle.std.proofs.lemmas.List.{length-take-le, take-append-le, take_at}
use Rattle.std.proofs.lemmas.Option.{slice_get_within, same_Some}
use Rattle.meta_model.specs.Walks.{Walk}
use Rattle.meta_model.specs.declared.event.Avail.{Avail}
use Rattle.meta_model.specs.declared.event.Logged.{Logged}
use Rattle.meta_model.specs.declared.plan.Options.{Options}
use Rattle.meta_model.specs.declared.plan.PlanTask.{PlanTask}
use Rattle.tale_model.specs.declared.fate.Fate.{Fate}
use Rattle.tale_model.specs.declared.fate.Fate.TheVariants.{Waiting, Failed}
use Rattle.run_core.specs.declared.next.Next.{Next}
use Rattle.run_core.specs.declared.next.Next.TheVariants as next
use Rattle.tale_model.specs.Fates.{fate_at, is_settled}
use Rattle.tale_model.specs.Need.{HasDependencies, IsIn}
use Rattle.run_core.specs.Choice.{CanSettle, MayAnswer, Agree, NeedsDirectly, StandsAbove, IsQuiet}
use Rattle.tale_model.specs.Choice.{IsReady, WaitsOn, IsHeldUp, IsOver, IsFinished}
use Rattle.tale_model.specs.History.{Course, EachAfter, IsLegal, MayMark, fates_in}

-- what is said of waiting tasks that are needed is said by both views
module _ (tasks : List PlanTask) (need other_need : List Bool) (avail other_avail : List Avail) (fates : List Fate) (closed : HasDependencies tasks avail need) (agree : Agree need other_need avail other_avail fates) where
  back_in : (t : ℕ) → fate_at fates t ≡ Waiting → IsIn other_need t → IsIn need t
  back_in t waits member = agree.needed t waits ∙ member

  settle_across : (t : ℕ) → CanSettle need avail fates t → CanSettle other_need other_avail fates t
  settle_across t can =
      let same = sym (agree.available t can.waits can.needed) in
      record {
        needed = sym (agree.needed t can.waits) ∙ can.needed;
        waits = can.waits;
        available = elim can.available [ inl w ↦ inl (same ∙ w) | inr o ↦ inr (same ∙ o) ];
      }

  settle_back : (t : ℕ) → CanSettle other_need other_avail fates t → CanSettle need avail fates t
  settle_back t can =
      let member = back_in t can.waits can.needed in
      let same = agree.available t can.waits member in
      record {
        needed = member;
        waits = can.waits;
        available = elim can.available [ inl w ↦ inl (same ∙ w) | inr o ↦ inr (same ∙ o) ];
      }

  ready_across : (t : ℕ) → IsReady tasks need avail fates t → IsReady tasks other_need other_avail fates t
  ready_across t ready = record {
    needed = sym (agree.needed t ready.waits) ∙ ready.needed;
    waits = ready.waits;
    missing = sym (agree.available t ready.waits ready.needed) ∙ ready.missing;
    settled = ready.settled;
  }

  ready_back : (t : ℕ) → IsReady tasks other_need other_avail fates t → IsReady tasks need avail fates t
  ready_back t ready = record {
    needed = back_in t ready.waits ready.needed;
    waits = ready.waits;
    missing = agree.available t ready.waits (back_in t ready.waits ready.needed) ∙ ready.missing;
    settled = ready.settled;
  }

  -- what a needed task waits on is needed too
  walk_across : (n t f : ℕ) → IsIn need t → Walk (WaitsOn tasks avail fates) n t f → Walk (WaitsOn tasks other_avail fates) n t f
  walk_across zero t f member same = same
  walk_across (suc n) t f member (d, first, rest) =
      let below = subst (IsIn need) first.needs.2 (closed t member first.missing first.needs.0 d first.needs.1) in
      (d, record { waits = first.waits; missing = sym (agree.available t first.waits member) ∙ first.missing; needs = first.needs }, walk_across n d f below rest)

  held_across : (t : ℕ) → IsIn need t → IsHeldUp tasks avail fates t → IsHeldUp tasks other_avail fates t
  held_across t member (f, (n, walk), failed) = (f, (n, walk_across n t f member walk), failed)

  over_across : (options : Options) (t : ℕ) → IsIn need t → IsOver options tasks avail fates t → IsOver options tasks other_avail fates t
  over_across options t member (inl settled) = inl settled
  over_across options t member (inr (keeps, held)) = inr (keeps, held_across t member held)

  finished_across : (options : Options) → IsFinished options tasks need avail fates → IsFinished options tasks other_need other_avail fates
  finished_across options done = record {
    rests = done.rests;
    over = λ t needed. by_settled t needed (is_settled (fate_at fates t)) refl;
  }
    where
      by_settled : (t : ℕ) → IsIn other_need t → (b : Bool) → is_settled (fate_at fates t) ≡ b → IsOver options tasks other_avail fates t
      by_settled t needed true e = inl e
      by_settled t needed false e = elim (agree.unsettled t needed) [
        | inl mine ↦ over_across options t mine (done.over t mine)
        | inr other ↦ elim other [ inl settled ↦ inl settled | inr runs ↦ absurd (done.rests t runs) ]
      ]

  pub answer_across : (options : Options) (answer : Next) → MayAnswer options tasks need avail fates answer → MayAnswer options tasks other_need other_avail fates answer
  answer_across options (next.Settle t) (can, goes) = (settle_across t can, goes)
  answer_across options (next.Start t) (ready, goes) = (ready_across t ready, goes)
  answer_across options next.Wait (runs, idle) = (runs, λ t. ((λ can. (idle t).0 (settle_back t can)), (λ ready. (idle t).1 (ready_back t ready))))
  answer_across options next.Finished done = finished_across options done
  answer_across options next.Stopped may = may

-- a task that is held up stands above a failed one
held_walk : (tasks : List PlanTask) (avail : List Avail) (fates : List Fate) (n t f : ℕ) → Walk (WaitsOn tasks avail fates) n t f → Walk (NeedsDirectly tasks) n t f
held_walk tasks avail fates zero t f same = same
held_walk tasks avail fates (suc n) t f (d, first, rest) = (d, first.needs, held_walk tasks avail fates n d f rest)

pub held_above : (tasks : List PlanTask) (avail : List Avail) (fates : List Fate) (t : ℕ) → IsHeldUp tasks avail fates t → StandsAbove tasks fates t
held_above tasks avail fates t (f, (n, walk), failed) = (f, (n, held_walk tasks avail fates n t f walk), failed)

-- where no task above a failed one is settled, runs or is there, it is held up
quiet_walk : (tasks : List PlanTask) (avail : List Avail) (fates : List Fate) → IsQuiet tasks avail fates → (n t f : ℕ) → Walk (NeedsDirectly tasks) n t f → fate_at fates f ≡ Failed → Walk (WaitsOn tasks avail fates) n t f
quiet_walk tasks avail fates quiet zero t f same failed = same
quiet_walk tasks avail fates quiet (suc n) t f (d, first, rest) failed =
    let still = quiet t f n (d, first, rest) failed in
    (d, record { waits = still.0; missing = still.1; needs = first }, quiet_walk tasks avail fates quiet n d f rest failed)

pub above_held : (tasks : List PlanTask) (avail : List Avail) (fates : List Fate) → IsQuiet tasks avail fates → (t : ℕ) → StandsAbove tasks fates t → IsHeldUp tasks avail fates t
above_held tasks avail fates quiet t (f, (n, walk), failed) = (f, (n, quiet_walk tasks avail fates quiet n t f walk failed), failed)

-- one more entry behind a tale

last_entry : (tale : List Logged) (entry : Logged) (k : ℕ) (e : Logged) → length tale ≤ k → slice_get (tale ++ entry ∷ []) k ≡ Some e → (k ≡ length tale) × (entry ≡ e)
last_entry [] entry zero e le is = (refl, same_Some entry e is)
last_entry [] entry (suc k) e le is = absurd (let f : None ≡ Some e = is in cc)
last_entry (x ∷ xs) entry zero e le is = absurd (omega (arith, le))
last_entry (x ∷ xs) entry (suc k) e le is = let rest = last_entry xs entry k e (omega (arith, le)) is in (ap suc rest.0, rest.1)

front_entry : (tale : List Logged) (entry : Logged) (k : ℕ) → k < length tale → slice_get (tale ++ entry ∷ []) k ≡ slice_get tale k
front_entry [] entry k lt = absurd (omega (arith, lt))
front_entry (x ∷ xs) entry zero lt = refl
front_entry (x ∷ xs) entry (suc k) lt = front_entry xs entry k (omega (arith, lt))

pub each_push : (R : List Logged → Logged → Type 0) (tale : List Logged) (entry : Logged) → EachAfter R tale → R tale entry → EachAfter R (tale ++ entry ∷ [])
each_push R tale entry each last k e is = elim (cases_lt k (length tale)) [
  | inl front ↦ subst (λ xs. R xs e) (sym (take-append-le k tale (entry ∷ []) (omega (arith, front)))) (each k e (sym (front_entry tale entry k front) ∙ is))
  | inr past ↦
      let at = last_entry tale entry k e past is in
      subst (λ xs. R xs e) (sym (take_at tale (entry ∷ []) k (sym at.0))) (subst (R tale) at.1 last)
]

-- what is needed and there after more events than a tale has makes no difference to it
pub legal_same : (course : Course) (need : ℕ → List Bool) (avail : ℕ → List Avail) (tale : List Logged) → ((k : ℕ) → k < length tale → (need k ≡ course.need k) × (avail k ≡ course.avail k)) → IsLegal course tale → IsLegal (record course { need = need; avail = avail }) tale
legal_same course need avail tale same legal k entry is =
    let within = slice_get_within tale k entry is in
    let lt : length (take k tale) < length tale = omega (arith, within, length-take-le k tale (omega (arith, within))) in
    let both = same (length (take k tale)) lt in
    let P : List Bool → List Avail → Type 0 = λ n a. MayMark course.options course.plan.tasks n a course.clean (fates_in course (take k tale)) entry.seat entry.event in
    subst (λ n. P n (avail (length (take k tale)))) (sym both.0) (subst (P (course.need (length (take k tale)))) (sym both.1) (legal k entry is))
