use Rattle.std.proofs.Common.{ap, ◌∙◌, refl}
use Rattle.tree_model.specs.Tree.{entry_at}
use Rattle.tree_model.proofs.TreeLemmas.{got_none}
use Rattle.tree_model.proofs.EditLemmas.{tree_remove, tree_same, put_remove, put_nothing, removed_is, stands_same, gap_same}
use Rattle.tree_model.proofs.edit.take_entry.Goals as goal

pub returns-in-Ok-clause-tree : goal.returns-in-Ok-clause-tree
returns-in-Ok-clause-tree c =
    let at = stands_same c.args.entries.now.items c.deref.result.now c.args.path.now c.in-Ok.place c.deref.ensures.value c.in-Ok.ensures in
    tree_same _ c.remove.new.self.items c.remove.ensures.items (tree_remove c.args.entries.now.items c.in-Ok.place c.requires at.0)

pub returns-in-Ok-clause-taken : goal.returns-in-Ok-clause-taken
returns-in-Ok-clause-taken c =
    let at = stands_same c.args.entries.now.items c.deref.result.now c.args.path.now c.in-Ok.place c.deref.ensures.value c.in-Ok.ensures in
    removed_is c.args.entries.now.items c.in-Ok.place c.args.path.now c.remove.result c.requires at c.remove.ensures.value

pub returns-in-Ok-clause-rest : goal.returns-in-Ok-clause-rest
returns-in-Ok-clause-rest c =
    let at = stands_same c.args.entries.now.items c.deref.result.now c.args.path.now c.in-Ok.place c.deref.ensures.value c.in-Ok.ensures in
    ap entry_at c.remove.ensures.items ∙ put_remove c.args.entries.now.items c.in-Ok.place c.args.path.now c.requires at

pub returns-in-Err-clause-taken : goal.returns-in-Err-clause-taken
returns-in-Err-clause-taken c = got_none c.args.entries.now.items c.deref.result.now c.args.entries.now.items c.args.path.now c.in-Err.field-0 c.deref.ensures.value refl c.in-Err.ensures

pub returns-in-Err-clause-rest : goal.returns-in-Err-clause-rest
returns-in-Err-clause-rest c = put_nothing c.args.entries.now.items c.in-Err.field-0 c.args.path.now (gap_same c.args.entries.now.items c.deref.result.now c.args.path.now c.in-Err.field-0 c.deref.ensures.value c.in-Err.ensures)
