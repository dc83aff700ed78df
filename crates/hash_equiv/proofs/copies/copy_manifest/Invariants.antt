use Rattle.std.proofs.Common.{◌≡◌, take}
use Rattle.hash_equiv.proofs.copies.copy_manifest.Given as goal

abbrev pub invariant-loop-line : goal.invariant-loop-line
invariant-loop-line l = l.lines.items ≡ take l.line-index l.line-items
