use Rattle.plan_clean.proofs.Left.{clearing_leaves}
use Rattle.plan_clean.proofs.laws.clearing_leaves.Goals as goal

pub returns : goal.returns
returns c = clearing_leaves
