use Rattle.tree_model.proofs.OverlayLemmas.{met_covered, met_from, sorted_later, first_later}
use Rattle.tree_model.proofs.overlay.is_met.Goals as goal

pub stands_over-requires-clause-sorted : goal.stands_over-requires-clause-sorted
stands_over-requires-clause-sorted c = sorted_later c.args.entries.now c.args.start c.requires.tree

pub stands_over-requires-clause-first : goal.stands_over-requires-clause-first
stands_over-requires-clause-first c = first_later c.args.entries.now c.args.path.now c.args.start c.requires.start

pub returns-then-stands_over : goal.returns-then-stands_over
returns-then-stands_over c = met_covered c.args.entries.now c.args.path.now c.args.start c.if-stands_over.ensures c.requires.start.within

pub returns : goal.returns
returns c = met_from c.args.entries.now c.args.path.now c.args.start c.lies_below_one.result c.requires.start c.if-stands_over.ensures c.lies_below_one.ensures
