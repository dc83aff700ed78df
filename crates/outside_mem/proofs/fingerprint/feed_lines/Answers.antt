use Rattle.outside_mem.proofs.Prints.{fed_none, fed_more, fed_all}
use Rattle.outside_mem.proofs.fingerprint.feed_lines.Goals as goal

pub loop-entry-init : goal.loop-entry-init
loop-entry-init c = fed_none c.args.hasher.now c.args.entries.now

pub loop-entry-preserved : goal.loop-entry-preserved
loop-entry-preserved c =
    fed_more c.args.hasher.now c.loop-entry.hasher c.feed_line.new.hasher c.args.entries.now c.loop-entry.entry-index c.entry-item.result
    c.loop-entry-test.true c.entry-item.is c.loop-entry.invariant c.feed_line.ensures

pub returns : goal.returns
returns c = fed_all c.args.hasher.now c.loop-entry.hasher c.args.entries.now c.loop-entry.entry-index c.loop-entry-test.false c.loop-entry.invariant
