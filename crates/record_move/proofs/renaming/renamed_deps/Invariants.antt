use Rattle.std.proofs.Common.{◌≡◌, map, take}
use Rattle.record_move.specs.Named.{dep_by}
use Rattle.record_move.proofs.renaming.renamed_deps.Given as goal

abbrev pub invariant-loop-dep : goal.invariant-loop-dep
invariant-loop-dep l = l.made.items ≡ map (dep_by l.names.entries) (take l.dep-index l.deps)
