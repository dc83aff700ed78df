use Rattle.var_expand.proofs.Steps.{at_end}
use Rattle.var_expand.proofs.standing.Standing.finished.Goals as goal

pub returns : goal.returns
returns c = at_end c.args.self c.flat.result c.flat.ensures
