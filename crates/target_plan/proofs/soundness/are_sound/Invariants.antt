-- The tasks so far are checked.
use Rattle.std.proofs.Common.{◌<◌, ℕ}
use Rattle.target_plan.proofs.Checking.{CheckedAt}
use Rattle.target_plan.proofs.soundness.are_sound.Given as goal

abbrev pub invariant-loop-number : goal.invariant-loop-number
invariant-loop-number l = (n : ℕ) → n < l.number → CheckedAt l.tasks n
