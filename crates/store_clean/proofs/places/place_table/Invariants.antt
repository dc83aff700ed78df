use Rattle.store_clean.proofs.Tabled.{IsTableTo}
use Rattle.store_clean.proofs.places.place_table.Given as goal

abbrev pub invariant-loop-place : goal.invariant-loop-place
invariant-loop-place l = IsTableTo l.nodes l.place l.table.entries
