use denote.Text.{Utf8}
use denote.Shadow.{shadow}
use Rattle.std.proofs.Common.{◌≡◌, length}
use Rattle.meta_model.specs.Overrides.{beats}
use Rattle.override_eval.specs.Winner.{parts}
use Rattle.override_eval.proofs.Places.{beats_from}
use Rattle.override_eval.proofs.forms.beats.Given as goal

-- the parts that are left decide as all parts do
abbrev pub invariant-loop-part : goal.invariant-loop-part
invariant-loop-part l = record {
  left : shadow (Utf8 l.left);
  right : shadow (Utf8 l.right);
  same : beats_from l.active l.greater (parts l.left) (parts l.right) ≡ beats l.active (parts l.form) (parts l.other);
}

abbrev pub decreases-loop-part : goal.decreases-loop-part
decreases-loop-part l = length l.left
