use Rattle.std.proofs.Common.{◌≡◌, take, map, filter, bytes_eq}
use Rattle.answer_model.specs.Targets.{target_of}
use Rattle.multi_config.specs.declared.places.Placed.{Placed}
use Rattle.multi_config.proofs.parts.part_of.Given as goal

abbrev pub invariant-loop-place : goal.invariant-loop-place
invariant-loop-place l = l.targets ≡ map (λ (t : Placed). target_of l.default t.word) (filter (λ (t : Placed). bytes_eq l.fn.name t.config) (take l.place-index l.places))
