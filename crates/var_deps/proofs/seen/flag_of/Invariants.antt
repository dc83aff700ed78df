use Rattle.std.proofs.Common.{◌≡◌, drop, bytes_eq}
use Rattle.std.specs.Map.{lookup}
use Rattle.var_deps.proofs.seen.flag_of.Given as goal

abbrev pub invariant-loop-pair : goal.invariant-loop-pair
invariant-loop-pair l = lookup (bytes_eq l.flag) l.found.flags ≡ lookup (bytes_eq l.flag) (drop l.pair-index l.pair-items)
