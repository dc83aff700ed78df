use Rattle.store_clean.proofs.Tabled.{table_all, table_next}
use Rattle.store_clean.proofs.places.place_table.Goals as goal

pub loop-place-preserved : goal.loop-place-preserved
loop-place-preserved c = table_next c.args.nodes.now c.loop-place.place c.index-nodes-place.result c.loop-place.table.entries c.put_place.new.table.entries c.loop-place-test.true c.index-nodes-place.is c.loop-place.invariant c.in_ok-put_place.ensures

pub returns : goal.returns
returns c = table_all c.args.nodes.now c.loop-place.place c.loop-place.table.entries c.loop-place-test.false c.loop-place.invariant
