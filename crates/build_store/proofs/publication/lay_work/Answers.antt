use Rattle.std.proofs.Common.{◌≡◌, ◌∙◌, sym, subst, List, ℕ, All}
use Rattle.tree_model.specs.Path.{IsClean, inside}
use Rattle.store_model.specs.Publication.{work_at}
use Rattle.build_store.proofs.Written.{work_paths_clean}
use Rattle.build_store.proofs.publication.lay_work.Goals as goal

pub put_tree-requires-clause-clean : goal.put_tree-requires-clause-clean
put_tree-requires-clause-clean g c =
    let is : c.as_str.result.now ≡ work_at c.args.folder.now = c.as_str.ensures ∙ c.in_ok-work.ensures in
    let P : List ℕ → Type 0 = λ folder. All (λ e. IsClean (inside folder e.0)) c.args.tree.now in
    subst P (sym is) (work_paths_clean c.args.tree.now c.entries-entries.ensures.tree c.requires.short c.args.folder.now c.requires.folder)
