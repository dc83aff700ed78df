use Rattle.std.proofs.Common.{List, take}
use Rattle.tree_model.specs.declared.hash.Hash.{Hash}
use Rattle.store_clean.specs.Steps.{ArePlaces, IsPlaceTable}
use Rattle.store_clean.proofs.edges.earlier_places.Given as goal

abbrev pub invariant-loop-name : goal.invariant-loop-name
invariant-loop-name l = (names : List Hash) → IsPlaceTable names l.table.entries → ArePlaces names l.own (take l.name-index l.needs) l.places
