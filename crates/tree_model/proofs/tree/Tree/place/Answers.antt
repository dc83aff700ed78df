use Rattle.tree_model.proofs.FolderLemmas.{place_here, placed_tree}
use Rattle.tree_model.proofs.tree.Tree.place.Goals as goal

pub returns-then-eq-clause-entries : goal.returns-then-eq-clause-entries
returns-then-eq-clause-entries c = place_here c.args.folder.now c.args.self.now c.in_ok-copy.field-0 c.if-eq.ensures c.in_ok-copy.ensures

pub invariant_of-result : goal.invariant_of-result
invariant_of-result c = placed_tree c.args.folder.now c.self.inside.entries.items c.deref.result.now c.in_ok-entries_inside.field-0.items c.deref.ensures.value c.self.invariant c.in_ok-entries_inside.ensures.ok c.in_ok-entries_inside.ensures.clean

pub returns-clause-tree : goal.returns-clause-tree
returns-clause-tree c = placed_tree c.args.folder.now c.self.inside.entries.items c.deref.result.now c.in_ok-entries_inside.field-0.items c.deref.ensures.value c.self.invariant c.in_ok-entries_inside.ensures.ok c.in_ok-entries_inside.ensures.clean
