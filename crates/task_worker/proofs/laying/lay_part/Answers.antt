use Rattle.std.proofs.Common.{◌∙◌, sym, subst, ℕ, List, get_or}
use Rattle.tree_model.specs.Path.{IsClean, inside}
use Rattle.task_worker.proofs.Names.{clean_dependency}
use Rattle.task_worker.proofs.laying.lay_part.Goals as goal

pub lay_inside-requires-clause-clean : goal.lay_inside-requires-clause-clean
lay_inside-requires-clause-clean c k d lt =
    let task = c.args.part.now.task.now in
    let path = (get_or c.args.part.now.output.now k d).0 in
    let P : List ℕ → Type 0 = λ folder. IsClean (inside folder path) in
    subst P (sym (c.as_str.ensures ∙ c.in_ok-folder.ensures)) (clean_dependency task.id.pn task.id.task path c.requires.pn c.requires.task (c.entries-output.ensures.tree.clean k d lt) (c.requires.short k d lt))
