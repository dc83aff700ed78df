use Rattle.std.proofs.Common.{sym, ◌∙◌}
use Rattle.tree_model.proofs.EditLemmas.{tree_set, put_set, new_tree, new_put, stands_same, gap_same, read_path}
use Rattle.tree_model.proofs.edit.put_entry.Goals as goal

pub returns-in-Ok-clause-tree : goal.returns-in-Ok-clause-tree
returns-in-Ok-clause-tree c =
    let at = stands_same c.args.entries.now.items c.deref.result.now c.args.path.now c.in-Ok.place c.deref.ensures.value c.in-Ok.ensures in
    tree_set c.args.entries.now.items c.in-Ok.place (c.index_mut.result.now.0, c.args.entry) c.requires.tree
    (λ d. at.1 d ∙ sym (read_path c.args.entries.now.items c.args.path.now c.in-Ok.place c.index_mut.result.now at c.index_mut.ensures.value))

pub returns-in-Ok-clause-ok : goal.returns-in-Ok-clause-ok
returns-in-Ok-clause-ok c =
    let at = stands_same c.args.entries.now.items c.deref.result.now c.args.path.now c.in-Ok.place c.deref.ensures.value c.in-Ok.ensures in
    put_set c.args.entries.now.items c.in-Ok.place c.args.path.now (c.index_mut.result.now.0, c.args.entry) c.requires.tree at
    (read_path c.args.entries.now.items c.args.path.now c.in-Ok.place c.index_mut.result.now at c.index_mut.ensures.value)

pub returns-in_ok-insert-in-Err-clause-tree : goal.returns-in_ok-insert-in-Err-clause-tree
returns-in_ok-insert-in-Err-clause-tree c =
    new_tree c.args.entries.now.items c.insert.new.self.items c.in-Err.place c.args.path.now c.in_ok-path-in-Err.path c.args.entry c.in_ok-path-in-Err.ensures c.in_ok-insert-in-Err.ensures.items c.requires.tree c.requires.clean c.requires.room
    (gap_same c.args.entries.now.items c.deref.result.now c.args.path.now c.in-Err.place c.deref.ensures.value c.in-Err.ensures)

pub returns-in_ok-insert-in-Err-clause-ok : goal.returns-in_ok-insert-in-Err-clause-ok
returns-in_ok-insert-in-Err-clause-ok c =
    new_put c.args.entries.now.items c.insert.new.self.items c.in-Err.place c.args.path.now c.in_ok-path-in-Err.path c.args.entry c.in_ok-path-in-Err.ensures c.in_ok-insert-in-Err.ensures.items c.requires.tree c.requires.clean c.requires.room
    (gap_same c.args.entries.now.items c.deref.result.now c.args.path.now c.in-Err.place c.deref.ensures.value c.in-Err.ensures)
