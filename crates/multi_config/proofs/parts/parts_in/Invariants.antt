use Rattle.std.proofs.Common.{◌≡◌, take, map}
use Rattle.multi_config.specs.Words.{part_of}
use Rattle.multi_config.proofs.parts.parts_in.Given as goal

abbrev pub invariant-loop-name : goal.invariant-loop-name
invariant-loop-name l = l.parts.items ≡ map (part_of l.default l.places) (take l.name-index l.name-items)
