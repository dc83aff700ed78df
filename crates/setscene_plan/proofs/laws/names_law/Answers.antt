use Rattle.setscene_plan.proofs.Naming.{names_are_over}
use Rattle.setscene_plan.proofs.laws.names_law.Goals as goal

pub returns : goal.returns
returns c = names_are_over
