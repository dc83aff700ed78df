use Rattle.override_eval.proofs.Passes.{entries_settle}
use Rattle.override_eval.proofs.laws.settling_law.Goals as goal

pub returns : goal.returns
returns c = entries_settle
