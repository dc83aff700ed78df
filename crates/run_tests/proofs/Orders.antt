-- Plans whose tasks need tasks below them alone.
use Rattle.std.proofs.Common.{sym, ap, subst, ℕ, ◌<◌, ◌≤◌, arith, List, length, All, inl, inr}
use Rattle.std.proofs.lemmas.Option.{slice_get_past}
use Rattle.std.proofs.lemmas.Bool.{cases_lt}
use Rattle.meta_model.specs.declared.plan.PlanTask.{PlanTask}
use Rattle.run_core.specs.Need.{AreOrdered}
use Rattle.tale_model.specs.Need.{deps_in, deps_of}

pub ordered_all : (tasks : List PlanTask) (count : ℕ) → length tasks ≤ count → ((t : ℕ) → t < count → All (λ d. d < t) (deps_of tasks t)) → AreOrdered tasks
ordered_all tasks count past each t = elim (cases_lt t count) [
  | inl lt ↦ each t lt
  | inr over ↦ subst (λ (ds : List ℕ). All (λ d. d < t) ds) (sym (ap deps_in (slice_get_past tasks t (omega (arith, past, over))))) (λ k d lt. absurd (omega (arith, lt)))
]
