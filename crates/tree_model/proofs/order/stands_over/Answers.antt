use Rattle.tree_model.proofs.TreeLemmas.{none_behind, not_covered_more}
use Rattle.tree_model.proofs.order.stands_over.Goals as goal

pub returns-in-Elsewhere : goal.returns-in-Elsewhere
returns-in-Elsewhere c = none_behind c.args.later.now c.args.path.now c.as_str.result.now c.loop-entry.entry-index c.entry-item.result c.loop-entry-test.true c.entry-item.is c.as_str.ensures c.requires.sorted c.requires.first c.in-Elsewhere.ensures c.loop-entry.invariant

pub loop-entry-preserved : goal.loop-entry-preserved
loop-entry-preserved c = not_covered_more c.args.later.now c.args.path.now c.as_str.result.now c.loop-entry.entry-index c.entry-item.result c.loop-entry-test.true c.entry-item.is c.as_str.ensures (c.in-Longer.ensures).1 c.loop-entry.invariant
