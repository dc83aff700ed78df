use Rattle.std.proofs.Common.{◌≡◌, drop, bytes_eq}
use Rattle.std.specs.Map.{lookup}
use Rattle.task_graph.proofs.providers.is_preferred_pn.Given as goal

abbrev pub invariant-loop-preference : goal.invariant-loop-preference
invariant-loop-preference l = lookup (bytes_eq l.name) (drop l.preference-index l.preference-items) ≡ lookup (bytes_eq l.name) l.preference-items
