use Rattle.plan_model.proofs.Reached.{graph_is_over}
use Rattle.plan_model.proofs.laws.graphs_are_over_their_facts.Goals as goal

pub returns : goal.returns
returns c = graph_is_over
