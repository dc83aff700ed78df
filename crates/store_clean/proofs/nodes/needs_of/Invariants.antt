use Rattle.std.proofs.Common.{◌≡◌, map, take}
use Rattle.store_model.specs.declared.signature.DepLine.{DepLine}
use Rattle.store_clean.proofs.nodes.needs_of.Given as goal

abbrev pub invariant-loop-dep : goal.invariant-loop-dep
invariant-loop-dep l = l.names ≡ map (λ (d : DepLine). d.name) (take l.dep-index l.dep-items)
