use Rattle.std.proofs.Common.{◌≡◌, fold, max, take}
use Rattle.store_model.specs.declared.signature.DepLine.{DepLine}
use Rattle.record_move.specs.Named.{value_at}
use Rattle.record_move.specs.Rounds.{behind}
use Rattle.record_move.proofs.rounds.round_behind_all.Given as goal

abbrev pub invariant-loop-dep : goal.invariant-loop-dep
invariant-loop-dep l = l.round ≡ fold (λ round (dep : DepLine). max round (behind (value_at l.rounds.entries dep.name))) 0 (take l.dep-index l.deps)
