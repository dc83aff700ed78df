use Rattle.std.proofs.Common.{ℕ, ◌<◌, All}
use Rattle.tale_model.specs.Need.{deps_of}
use Rattle.run_tests.proofs.plans.are_ordered.Given as goal

abbrev pub invariant-loop-place : goal.invariant-loop-place
invariant-loop-place l = (t : ℕ) → t < l.place → All (λ d. d < t) (deps_of l.tasks t)
