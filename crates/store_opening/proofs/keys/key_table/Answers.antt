use Rattle.store_opening.proofs.Keyed.{keyed_all, keyed_more}
use Rattle.store_opening.proofs.keys.key_table.Goals as goal

pub loop-place-preserved : goal.loop-place-preserved
loop-place-preserved c = keyed_more c.args.files.now c.loop-place.place c.index-files-place.result c.loop-place.table.entries c.put_key.new.table.entries c.loop-place-test.true c.index-files-place.is c.loop-place.invariant c.in_ok-put_key.ensures

pub returns : goal.returns
returns c = keyed_all c.args.files.now c.loop-place.place c.loop-place.table.entries c.loop-place-test.false c.loop-place.invariant
