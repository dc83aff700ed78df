use Rattle.std.proofs.Common.{subst}
use Rattle.task_graph.specs.Reached.{IsGraphFault}
use Rattle.target_graph.proofs.Told.{graph_told}
use Rattle.target_graph.proofs.graph.graph_of.Goals as goal

pub returns-in-Err-clause-err : goal.returns-in-Err-clause-err
returns-in-Err-clause-err c =
    let facts = c.args.asked.now.set.facts in
    let targets = c.args.asked.now.targets in
    graph_told facts targets c.in-Err.fault c.graph_status.result
    (subst (λ f. IsGraphFault f targets c.in-Err.fault) c.facts.ensures.facts (subst (λ t. IsGraphFault c.facts.result.now t c.in-Err.fault) c.as_slice.ensures c.in-Err.ensures.err))
    c.graph_status.ensures.told
