use Rattle.std.proofs.Common.{◌≡◌, take, false}
use Rattle.meta_model.specs.Providers.{runtime_provider}
use Rattle.task_graph.specs.Needed.{lacks_provider}
use Rattle.task_graph.proofs.lacking.lacking_name.Given as goal

abbrev pub invariant-loop-name : goal.invariant-loop-name
invariant-loop-name l = lacks_provider (runtime_provider l.facts) (take l.name-index l.names) ≡ false
