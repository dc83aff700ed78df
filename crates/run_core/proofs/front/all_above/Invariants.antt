use Rattle.std.proofs.Common.{◌≡◌, ℕ, ◌<◌, Contains, length}
use Rattle.tale_model.specs.Need.{deps_of}
use Rattle.run_core.specs.Above.{above_of}
use Rattle.run_core.proofs.front.all_above.Given as goal

abbrev pub invariant-loop-place : goal.invariant-loop-place
invariant-loop-place l = record {
  long : length l.above.items ≡ length l.tasks;
  said : (u t : ℕ) → u < l.place → Contains (deps_of l.tasks u) t → Contains (above_of l.above.items t) u;
  only : (u t : ℕ) → Contains (above_of l.above.items t) u → Contains (deps_of l.tasks u) t;
}
