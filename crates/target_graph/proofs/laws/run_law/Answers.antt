use Rattle.target_graph.proofs.OneRun.{run_not_refused}
use Rattle.target_graph.proofs.laws.run_law.Goals as goal

pub returns : goal.returns
returns c = run_not_refused
