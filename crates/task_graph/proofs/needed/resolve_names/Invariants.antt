use Rattle.std.proofs.Common.{◌≡◌, ◌++◌, ◌||◌, take}
use Rattle.meta_model.specs.Providers.{runtime_provider}
use Rattle.task_graph.specs.Needed.{resolved, lacks_provider}
use Rattle.task_graph.proofs.needed.resolve_names.Given as goal

abbrev pub invariant-loop-name : goal.invariant-loop-name
invariant-loop-name l = (l.made.found.items ≡ l.fn.made.found.items ++ resolved (runtime_provider l.facts) (take l.name-index l.names)) × (l.made.lacks ≡ (l.fn.made.lacks || lacks_provider (runtime_provider l.facts) (take l.name-index l.names)))
