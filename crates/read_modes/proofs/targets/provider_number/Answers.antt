use Rattle.task_graph.proofs.Contexts.{one_within}
use Rattle.read_modes.proofs.targets.provider_number.Goals as goal

pub returns-in-Ok-clause-within : goal.returns-in-Ok-clause-within
returns-in-Ok-clause-within c = one_within c.args.facts.now.recipes _ c.in-Ok.number c.in-Ok.ensures.ok
