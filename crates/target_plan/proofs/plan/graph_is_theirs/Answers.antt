use Rattle.plan_model.proofs.Reached.{graph_is_over}
use Rattle.target_graph.specs.Meaning.{asked_meant}
use Rattle.target_plan.proofs.plan.graph_is_theirs.Goals as goal

pub returns : goal.returns
returns c = record { over = graph_is_over c.args.found.now.asked.set.facts (asked_meant c.args.found.now.asked).targets c.args.found.now.graph c.requires.graph.graph }
