use Rattle.task_graph.proofs.Refusals.{among_at}
use Rattle.task_graph.proofs.lacking.lacking_name.Goals as goal

pub returns-in-None-clause-among : goal.returns-in-None-clause-among
returns-in-None-clause-among c = among_at c.args.names.now c.loop-name.name-index c.name-item.result c.loop-name-test.true c.name-item.is
