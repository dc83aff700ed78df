use Rattle.std.proofs.Common.{◌≡◌, length}
use Rattle.setscene_plan.proofs.names.no_hashes.Given as goal

abbrev pub invariant-loop : goal.invariant-loop
invariant-loop l = length l.made.items ≡ l.counter
