use Rattle.std.proofs.Common.{◌≡◌, false, replicate}
use Rattle.store_clean.proofs.deciding.no_marks.Given as goal

abbrev pub invariant-loop : goal.invariant-loop
invariant-loop l = l.made.items ≡ replicate l.counter false
