use Rattle.outside_mem.proofs.Prints.{HasFed}
use Rattle.outside_mem.proofs.fingerprint.feed_lines.Given as goal

abbrev pub invariant-loop-entry : goal.invariant-loop-entry
invariant-loop-entry l = HasFed l.fn.hasher l.hasher l.entries l.entry-index
