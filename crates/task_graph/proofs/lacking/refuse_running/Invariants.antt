use Rattle.std.proofs.Common.{◌≡◌, take, false}
use Rattle.std.specs.List.{flat_map}
use Rattle.meta_model.specs.Providers.{runtime_provider}
use Rattle.task_graph.specs.Needed.{lacks_provider}
use Rattle.task_graph.proofs.lacking.refuse_running.Given as goal

abbrev pub invariant-loop-package : goal.invariant-loop-package
invariant-loop-package l = lacks_provider (runtime_provider l.facts) (flat_map (λ p. p.rdepends) (take l.package-index l.package-items)) ≡ false
