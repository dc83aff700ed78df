use Rattle.std.proofs.Common.{take}
use Rattle.outside_traits.specs.Store.{Store}
use Rattle.store_opening.specs.Survey.{AreKeys}
use Rattle.store_opening.proofs.Doomed.{KeysGo}
use Rattle.store_opening.proofs.keys.survey_keys.Given as goal

abbrev pub invariant-loop-file : goal.invariant-loop-file
invariant-loop-file l = (held : Store) → AreKeys held l.files → KeysGo held (take l.file-index l.files) l.initial.doomed.items l.doomed.items
