use denote.Text.{Utf8}
use denote.Shadow.{shadow}
use Rattle.std.proofs.Common.{◌≡◌, length}
use Rattle.override_eval.specs.Winner.{is_counted}
use Rattle.override_eval.proofs.forms.is_counted.Given as goal

-- the parts up to here are active
abbrev pub invariant-loop-part : goal.invariant-loop-part
invariant-loop-part l = record {
  text : shadow (Utf8 l.rest);
  same : is_counted l.active l.rest ≡ is_counted l.active l.form;
}

abbrev pub decreases-loop-part : goal.decreases-loop-part
decreases-loop-part l = length l.rest
