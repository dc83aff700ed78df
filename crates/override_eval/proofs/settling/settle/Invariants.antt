use Rattle.std.proofs.Common.{◌≡◌}
use Rattle.override_eval.specs.Settled.{pass_of, settled_by, active_by}
use Rattle.override_eval.proofs.settling.settle.Given as goal

-- the passes that are left give what all passes give
abbrev pub invariant-loop-left : goal.invariant-loop-left
invariant-loop-left g l = settled_by (pass_of (g.T.OverrideText.text l.source)) l.left l.before l.last ≡ active_by (pass_of (g.T.OverrideText.text l.source))

abbrev pub decreases-loop-left : goal.decreases-loop-left
decreases-loop-left g l = l.left
