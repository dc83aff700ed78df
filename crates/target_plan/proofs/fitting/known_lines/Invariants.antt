-- What was read so far fits.
use Rattle.std.proofs.Common.{take}
use Rattle.std.specs.List.{AllByRecursion}
use Rattle.store_model.specs.OneSpelling.{LineFits}
use Rattle.target_plan.proofs.fitting.known_lines.Given as goal

abbrev pub invariant-loop-line : goal.invariant-loop-line
invariant-loop-line l = AllByRecursion LineFits (take l.line-index l.lines)
