use Rattle.std.proofs.Common.{◌∙◌}
use Rattle.override_eval.proofs.Passes.{texts_pointwise}
use Rattle.override_eval.proofs.settling.are_same.Goals as goal

pub returns : goal.returns
returns c = c.eq.ensures ∙ texts_pointwise c.args.before.now c.args.last.now
