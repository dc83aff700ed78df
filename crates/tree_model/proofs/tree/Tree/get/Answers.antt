use Rattle.tree_model.proofs.TreeLemmas.{got, got_none, ascending_at}
use Rattle.tree_model.proofs.tree.Tree.get.Goals as goal

pub place_of-requires : goal.place_of-requires
place_of-requires c = ascending_at c.self.inside.entries.items c.deref.result.now c.deref.ensures.value c.self.invariant

pub returns-in-Ok : goal.returns-in-Ok
returns-in-Ok c = got c.self.inside.entries.items c.deref.result.now c.args.self.now c.args.path.now c.in-Ok.place c.index.result.now c.deref.ensures.value c.self.view_is c.self.invariant c.in-Ok.ensures c.index.ensures

pub returns-in-Err : goal.returns-in-Err
returns-in-Err c = got_none c.self.inside.entries.items c.deref.result.now c.args.self.now c.args.path.now c.in-Err.field-0 c.deref.ensures.value c.self.view_is c.in-Err.ensures
