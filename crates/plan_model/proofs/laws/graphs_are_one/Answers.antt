use Rattle.plan_model.proofs.OneGraph.{one_graph}
use Rattle.plan_model.proofs.laws.graphs_are_one.Goals as goal

pub returns : goal.returns
returns c = one_graph
