-- What is next while some tasks are in hand.
use Rattle.std.proofs.Common.{◌≡◌, ◌↔◌, subst, refl, ℕ, ◌<◌, ◌≤◌, ◌+◌, Bool, List, [], inl, inr, Option, Some, None, arith}
use Rattle.std.proofs.lemmas.Bool.{cases_lt}
use Rattle.std.specs.Prelude.{Contains, MatchOption, length}
use Rattle.meta_model.specs.declared.event.Avail.{Avail}
use Rattle.meta_model.specs.declared.plan.PlanTask.{PlanTask}
use Rattle.meta_model.specs.declared.plan.Options.{Options}
use Rattle.tale_model.specs.declared.fate.Fate.{Fate}
use Rattle.tale_model.specs.Need.{HasDependencies}
use Rattle.tale_model.specs.Choice.{GoesOn, IsFinished}
use Rattle.run_core.specs.declared.next.Next.{Next}
use Rattle.run_core.specs.declared.next.Next.TheVariants as next
use Rattle.run_core.specs.Choice.{CannotGoOn, CannotGoOnBeside, MayAnswer, MayAnswerBeside, MayGoOn, MayGoOnBeside}
use Rattle.run_core.specs.Fates.{SomeRuns}
use Rattle.run_core.specs.Need.{AreOrdered}
use Rattle.run_core.proofs.Ending.{finished, not_finished}

none_in : (t : ℕ) → Contains [] t → ⊥
none_in t has = let lt : has.0 < 0 = has.1 in omega (arith, lt)

-- what holds of all before a place, and at it, holds of all up to it
pub step_on : (P : ℕ → Type 0) (from place : ℕ) → ((t : ℕ) → from ≤ t → t < place → P t) → P place → (t : ℕ) → from ≤ t → t < place + 1 → P t
step_on P from place before own t low high = elim (cases_lt t place) [
  | inl lt ↦ before t low lt
  | inr ge ↦ let same : place ≡ t = omega (arith, ge, high) in subst P same own
]

-- nobody
abbrev no_task : List ℕ
no_task = []

-- ---- with none in hand

module _ (tasks : List PlanTask) (need : List Bool) (avail : List Avail) (fates : List Fate) where
  cannot : (t : ℕ) → CannotGoOnBeside tasks need avail fates [] t → CannotGoOn tasks need avail fates t
  cannot t c = elim c [ inl has ↦ absurd (none_in t has) | inr c ↦ c ]

  pub found_alone : (found : Option Next) → MatchOption found ((t : ℕ) → CannotGoOnBeside tasks need avail fates [] t) (MayGoOnBeside tasks need avail fates []) → MatchOption found ((t : ℕ) → CannotGoOn tasks need avail fates t) (MayGoOn tasks need avail fates)
  found_alone None idle = λ t. cannot t (idle t)
  found_alone (Some next) may = may.0

  pub found_beside : (found : Option Next) → MatchOption found ((t : ℕ) → CannotGoOn tasks need avail fates t) (MayGoOn tasks need avail fates) → MatchOption found ((t : ℕ) → CannotGoOnBeside tasks need avail fates [] t) (MayGoOnBeside tasks need avail fates [])
  found_beside None idle = λ t. inr (idle t)
  found_beside (Some next) may = (may, λ t named has. none_in t has)

  pub answer_alone : (options : Options) (answer : Next) → MayAnswerBeside options tasks need avail fates [] answer → MayAnswer options tasks need avail fates answer
  answer_alone options (next.Settle t) may = (may.0, may.1)
  answer_alone options (next.Start t) may = (may.0, may.1)
  answer_alone options next.Wait may = (elim may.0 [ inl runs ↦ runs | inr some ↦ absurd (some refl) ], λ t. cannot t (may.1 t))
  answer_alone options next.Finished may = may.0
  answer_alone options next.Stopped may = may

  pub finished_alone : (options : Options) (answer : Next) → (answer ≡ next.Finished) ↔ (IsFinished options tasks need avail fates × (no_task ≡ [])) → (answer ≡ next.Finished) ↔ IsFinished options tasks need avail fates
  finished_alone options answer both = (λ e. (both.0 e).0, λ done. both.1 (done, refl))

-- ---- with some in hand

module _ (options : Options) (tasks : List PlanTask) (need : List Bool) (avail : List Avail) (fates : List Fate) (taken : List ℕ) where
  pub answer_found : (answer : Next) → MayGoOnBeside tasks need avail fates taken answer → GoesOn options fates → MayAnswerBeside options tasks need avail fates taken answer
  answer_found (next.Settle t) may goes = (may.0, goes, may.1 t refl)
  answer_found (next.Start t) may goes = (may.0, goes, may.1 t refl)
  answer_found next.Wait may goes = absurd may.0
  answer_found next.Finished may goes = absurd may.0
  answer_found next.Stopped may goes = absurd may.0

  pub found_unfinished : (answer : Next) → MayGoOnBeside tasks need avail fates taken answer → (answer ≡ next.Finished) ↔ (IsFinished options tasks need avail fates × (taken ≡ []))
  found_unfinished answer may =
      (λ e. absurd (subst (MayGoOn tasks need avail fates) e may.0), λ done. absurd (not_finished tasks need avail fates options answer may.0 done.0))

  pub rests_beside : AreOrdered tasks → HasDependencies tasks avail need → length avail ≡ length need → ((t : ℕ) → CannotGoOnBeside tasks need avail fates taken t) → (SomeRuns fates → ⊥) × (taken ≡ []) → GoesOn options fates →
      IsFinished options tasks need avail fates × (taken ≡ [])
  rests_beside ordered closed listed idle rests goes =
      (finished tasks need avail fates ordered closed listed (λ t. cannot tasks need avail fates t (subst (λ (l : List ℕ). CannotGoOnBeside tasks need avail fates l t) rests.1 (idle t))) (λ t running. rests.0 (t, running)) options goes, rests.1)
