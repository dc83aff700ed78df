use Rattle.tree_model.proofs.LawLemmas.{over_empty, empty_over}
use Rattle.tree_model.proofs.laws.overlay_with_the_empty_tree.Goals as goal

pub returns-clause-over : goal.returns-clause-over
returns-clause-over c = empty_over c.args.tree.now c.entries-entries.ensures.tree

pub returns-clause-under : goal.returns-clause-under
returns-clause-under c = over_empty c.args.tree.now c.entries-entries.ensures.tree
