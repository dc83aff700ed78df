use Rattle.store_opening.proofs.Keyed.{KeyedSoFar}
use Rattle.store_opening.proofs.keys.key_table.Given as goal

abbrev pub invariant-loop-place : goal.invariant-loop-place
invariant-loop-place l = KeyedSoFar l.files l.place l.table.entries
