use Rattle.std.proofs.Common.{take}
use Rattle.std.specs.List.{flat_map}
use Rattle.meta_model.specs.Providers.{runtime_provider}
use Rattle.task_graph.specs.Needed.{IsResolved}
use Rattle.task_graph.proofs.needed.resolve_running.Given as goal

abbrev pub invariant-loop-package : goal.invariant-loop-package
invariant-loop-package l = IsResolved (runtime_provider l.facts) (flat_map (λ p. p.rdepends) (take l.package-index l.package-items)) l.made
