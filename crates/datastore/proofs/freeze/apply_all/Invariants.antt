use Rattle.std.proofs.Common.{◌≡◌, ◌++◌, take}
use Rattle.datastore.proofs.freeze.apply_all.Given as goal

abbrev pub invariant-loop-line : goal.invariant-loop-line
invariant-loop-line l = l.store ≡ l.fn.store ++ take l.line-index l.lines
