use Rattle.std.proofs.Common.{◌≡◌, take}
use Rattle.value_maps.proofs.copies.copy_lates.Given as goal

abbrev pub invariant-loop-late : goal.invariant-loop-late
invariant-loop-late l = l.made.items ≡ take l.late-index l.lates
