-- What was read so far fits.
use Rattle.std.proofs.Common.{take}
use Rattle.std.specs.List.{AllByRecursion}
use Rattle.store_model.specs.OneSpelling.{FlagFits}
use Rattle.target_plan.proofs.fitting.known_flags.Given as goal

abbrev pub invariant-loop-flag : goal.invariant-loop-flag
invariant-loop-flag l = AllByRecursion FlagFits (take l.flag-index l.flags)
