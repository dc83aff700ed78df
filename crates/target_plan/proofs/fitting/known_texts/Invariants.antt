-- What was read so far fits.
use Rattle.std.proofs.Common.{take}
use Rattle.std.specs.List.{AllByRecursion}
use Rattle.store_model.specs.OneSpelling.{Fits}
use Rattle.target_plan.proofs.fitting.known_texts.Given as goal

abbrev pub invariant-loop-text : goal.invariant-loop-text
invariant-loop-text l = AllByRecursion Fits (take l.text-index l.texts)
