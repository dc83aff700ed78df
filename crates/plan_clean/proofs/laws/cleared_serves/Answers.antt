use Rattle.plan_clean.proofs.Serving.{cleared_serves}
use Rattle.plan_clean.proofs.laws.cleared_serves.Goals as goal

pub returns : goal.returns
returns c = cleared_serves
