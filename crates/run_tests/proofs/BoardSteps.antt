-- Runs of one seat.
use Rattle.std.proofs.Common.{◌≡◌, ◌≢◌, ◌∙◌, sym, ap, subst, refl, ℕ, zero, suc, ◌<◌, Bool, true, false, List, [], length, set, replicate, Contains, inl, inr, arith}
use Rattle.std.proofs.Math.ListN.{length-set}
use Rattle.std.proofs.lemmas.Bool.{cases_eq}
use Rattle.std.proofs.lemmas.List.{length-replicate}
use Rattle.meta_model.specs.declared.event.Avail.{Avail}
use Rattle.meta_model.specs.declared.event.Event.TheVariants as events
use Rattle.meta_model.specs.declared.event.Why.{Why}
use Rattle.tale_model.specs.declared.fate.Fate.{Fate}
use Rattle.tale_model.specs.declared.fate.Fate.TheVariants.{Waiting, Running, Failed}
use Rattle.run_core.specs.declared.next.Next.TheVariants as next
use Rattle.run_core.specs.declared.front.Front.{Front}
use Rattle.run_core.specs.Candidates.{ChangesOnly, Covers}
use Rattle.run_core.specs.Fates.{CanMark}
use Rattle.tale_model.specs.Fates.{fate_at, is_running, is_settled, NoneRuns}
use Rattle.run_core.proofs.Marking.{fate_kept, fate_set}
use Rattle.setscene_plan.specs.declared.replan.Replan.{Replan}
use Rattle.setscene_plan.specs.Replans.{IsCurrent, avail_in, need_in, told_in}
use Rattle.setscene_plan.specs.View.{View}
use Rattle.run_tests.specs.Index.{no_objects}
use Rattle.run_tests.specs.Playing.{CanBegin, IsSound, Stands, TellsChanges}

-- ---- boards

-- none runs where none did but for one task, which no longer does
rests_on : (fates : List Fate) (t : ℕ) (f : Fate) → t < length fates → ((u : ℕ) → u ≢ t → is_running (fate_at fates u) ≡ true → ⊥) → (is_running f ≡ true → ⊥) → NoneRuns (set fates t f)
rests_on fates t f lt others ends u runs = elim (cases_eq u t) [
  | inl same ↦ ends (sym (ap is_running (ap (fate_at (set fates t f)) same ∙ fate_set fates t f lt)) ∙ runs)
  | inr ne ↦ others u ne (sym (ap is_running (fate_kept fates t u f ne)) ∙ runs)
]

pub rests_once : (fates : List Fate) (t : ℕ) (f : Fate) → t < length fates → NoneRuns fates → (is_running f ≡ true → ⊥) → NoneRuns (set fates t f)
rests_once fates t f lt rests ends = rests_on fates t f lt (λ u ne. rests u) ends

pub long_once : (fates : List Fate) (t : ℕ) (f : Fate) → length (set fates t f) ≡ length fates
long_once fates t f = simp length-set

-- the task runs for a while
pub long_twice : (fates : List Fate) (t : ℕ) (f g : Fate) → length (set (set fates t f) t g) ≡ length fates
long_twice fates t f g = simp length-set

pub rests_twice : (fates : List Fate) (t : ℕ) (f g : Fate) → t < length fates → NoneRuns fates → (is_running g ≡ true → ⊥) → NoneRuns (set (set fates t f) t g)
rests_twice fates t f g lt rests ends = rests_on (set fates t f) t g (let long : length (set fates t f) ≡ length fates = simp length-set in omega (arith, long, lt)) (λ u ne runs. rests u (sym (ap is_running (fate_kept fates t u f ne)) ∙ runs)) ends

pub may_start : (fates : List Fate) (t : ℕ) → NoneRuns fates → CanBegin fates t → CanMark fates (events.Started t 0)
may_start fates t rests can = (can.within, can.waits, λ u e. rests u (ap is_running e))

within_on : (fates : List Fate) (t : ℕ) (f : Fate) → CanBegin fates t → t < length (set fates t f)
within_on fates t f can = let long : length (set fates t f) ≡ length fates = simp length-set in omega (arith, long, can.within)

pub may_fail : (fates : List Fate) (t : ℕ) (cause : Why) → CanBegin fates t → CanMark (set fates t (Running 0)) (events.Failed t cause)
may_fail fates t cause can =
    let now : fate_at (set fates t (Running 0)) t ≡ Running 0 = fate_set fates t (Running 0) can.within in
    (within_on fates t (Running 0) can, ap is_settled now, λ e. let f : Running 0 ≡ Failed = sym now ∙ e in absurd (cc))

pub may_end : (fates : List Fate) (t : ℕ) → CanBegin fates t → CanMark (set fates t (Running 0)) (events.Ended t)
may_end fates t can = (within_on fates t (Running 0) can, ap is_running (fate_set fates t (Running 0) can.within))

none_begun : (n t : ℕ) → is_running (fate_at (replicate n Waiting) t) ≡ true → ⊥
none_begun zero t e = let f : false ≡ true = e in cc
none_begun (suc n) zero e = let f : false ≡ true = e in cc
none_begun (suc n) (suc t) e = none_begun n t e

-- ---- what changed

pub nothing_changed : (need : List Bool) (avail : List Avail) (fates : List Fate) → ChangesOnly need avail need avail fates []
nothing_changed need avail fates t waits = inr ((λ h. h), refl)

pub changes_told : (old new : Replan) (fates : List Fate) (told : List ℕ) → told ≡ told_in new → TellsChanges old new → ChangesOnly (need_in old) (avail_in old) (need_in new) (avail_in new) fates told
changes_told old new fates told is tells t waits = elim (tells t) [
  | inl listed ↦ inl (subst (λ (l : List ℕ). Contains l t) (sym is) listed)
  | inr same ↦ inr ((λ h. sym same.0 ∙ h), same.1)
]

-- ---- runs

pub begun : (view : View) (replan : Replan) (front : Front) (board : List Fate) (count : ℕ) → IsSound view.plan
    → IsCurrent no_objects view replan → board ≡ replicate count Waiting → count ≡ length view.plan.tasks → ((need : List Bool) (avail : List Avail) (fates : List Fate) → length need ≡ length view.plan.tasks → Covers view.plan.tasks need avail fates front) → Stands view (record { replan = replan; front = front; board = board })
begun view replan front board count sound current is all covers = record {
  sound = sound;
  current = current;
  long = ap (λ (fs : List Fate). length fs) is ∙ length-replicate count Waiting ∙ all;
  covers = covers (need_in replan) (avail_in replan) board current.needs.least.long;
  rests = λ t e. none_begun count t (ap (λ (fs : List Fate). is_running (fate_at fs t)) (sym is) ∙ e);
}

pub stood : (view : View) (replan : Replan) (front : Front) (fates board : List Fate) → IsSound view.plan → IsCurrent no_objects view replan → length fates ≡ length view.plan.tasks → Covers view.plan.tasks (need_in replan) (avail_in replan) fates front → NoneRuns fates → board ≡ fates → Stands view (record { replan = replan; front = front; board = board })
stood view replan front fates board sound current long covers rests is = record {
  sound = sound;
  current = current;
  long = ap (λ (fs : List Fate). length fs) is ∙ long;
  covers = subst (λ (fs : List Fate). Covers view.plan.tasks (need_in replan) (avail_in replan) fs front) (sym is) covers;
  rests = subst NoneRuns (sym is) rests;
}
