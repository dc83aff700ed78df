use Rattle.std.proofs.Common.{◌≡◌, take, map}
use Rattle.read_modes.proofs.part.names_of.Given as goal

abbrev pub invariant-loop-target : goal.invariant-loop-target
invariant-loop-target l = l.names.items ≡ map (λ t. t.name) (take l.target-index l.targets)
