use Rattle.store_clean.proofs.Swept.{unneeded_all, unneeded_first, unneeded_noted}
use Rattle.store_clean.proofs.sweeping.unneeded.Goals as goal

pub loop-path-init : goal.loop-path-init
loop-path-init c = unneeded_first c.args.prefix.now c.args.table.now.entries c.args.paths.now c.new-made.result.items c.new-made.ensures.items

pub loop-path-preserved : goal.loop-path-preserved
loop-path-preserved c = unneeded_noted c.args.prefix.now c.args.table.now.entries c.args.paths.now c.loop-path.path-index c.path-item.result c.loop-path.made.items c.note_unneeded.new.made.items c.loop-path-test.true c.path-item.is c.loop-path.invariant c.in_ok-note_unneeded.ensures

pub returns : goal.returns
returns c = unneeded_all c.args.prefix.now c.args.table.now.entries c.args.paths.now c.loop-path.path-index c.loop-path.made.items c.loop-path-test.false c.loop-path.invariant
