use Rattle.std.proofs.Common.{take}
use Rattle.store_clean.specs.Steps.{AreUnneeded}
use Rattle.store_clean.proofs.sweeping.unneeded.Given as goal

abbrev pub invariant-loop-path : goal.invariant-loop-path
invariant-loop-path l = AreUnneeded l.prefix l.table.entries (take l.path-index l.paths) l.made.items
