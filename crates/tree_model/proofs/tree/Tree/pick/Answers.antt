use Rattle.tree_model.proofs.FolderLemmas.{pick_inside, picked_tree}
use Rattle.tree_model.proofs.tree.Tree.pick.Goals as goal

pub invariant_of-result : goal.invariant_of-result
invariant_of-result c = picked_tree c.args.folder.now c.self.inside.entries.items c.deref.result.now c.in_ok-entries_under.field-0.items c.deref.ensures.value c.self.invariant c.in_ok-entries_under.ensures

pub returns : goal.returns
returns c = pick_inside c.args.folder.now c.self.inside.entries.items c.deref.result.now c.args.self.now c.in_ok-entries_under.field-0.items c.if-eq.ensures c.deref.ensures.value c.self.view_is c.self.invariant c.in_ok-entries_under.ensures
