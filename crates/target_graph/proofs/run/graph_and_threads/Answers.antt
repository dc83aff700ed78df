use Rattle.target_graph.specs.Meaning.{asked_meant}
use Rattle.target_graph.proofs.Running.{graph_missing, threads_missing}
use Rattle.target_graph.proofs.run.graph_and_threads.Goals as goal

pub returns-in-Err-number_of_threads-clause-err : goal.returns-in-Err-number_of_threads-clause-err
returns-in-Err-number_of_threads-clause-err c = threads_missing (asked_meant c.args.asked.now) c.in-Ok.graph c.in-Err-number_of_threads.status c.in-Ok.ensures.ok c.in-Err-number_of_threads.ensures.err

pub returns-in-Err-clause-err : goal.returns-in-Err-clause-err
returns-in-Err-clause-err c = graph_missing (asked_meant c.args.asked.now) c.in-Err.status c.in-Err.ensures.err
