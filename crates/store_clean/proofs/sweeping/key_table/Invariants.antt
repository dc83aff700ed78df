use Rattle.store_clean.proofs.Swept.{KeptTo}
use Rattle.store_clean.proofs.sweeping.key_table.Given as goal

abbrev pub invariant-loop-place : goal.invariant-loop-place
invariant-loop-place l = KeptTo (λ n. n.key) l.nodes l.marks l.place l.table.entries
