use Rattle.std.proofs.Common.{◌≡◌, ◌≤◌, false, length, drop}
use Rattle.meta_model.specs.Text.{is_in}
use Rattle.override_eval.proofs.forms.place.Given as goal

-- the part doesn't stand behind this place
abbrev pub invariant-loop-left : goal.invariant-loop-left
invariant-loop-left l = record {
  within : l.left ≤ length l.active;
  behind : is_in l.part (drop l.left l.active) ≡ false;
}

abbrev pub decreases-loop-left : goal.decreases-loop-left
decreases-loop-left l = l.left
