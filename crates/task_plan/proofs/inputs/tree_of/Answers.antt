use Rattle.std.proofs.Common.{◌∙◌, ap, Some, false, [], ◌∷◌}
use Rattle.tree_model.specs.declared.entry.Entry.TheVariants.{File}
use Rattle.tree_model.specs.Tree.{entry_at, put}
use Rattle.tree_model.proofs.LawLemmas.{same_trees}
use Rattle.plan_model.proofs.Filed.{one_file}
use Rattle.task_plan.proofs.Inputting.{one_held}
use Rattle.task_plan.proofs.inputs.tree_of.Goals as goal

pub returns : goal.returns
returns c =
    let name = c.args.name.now in
    let entry = File false c.args.bytes in
    same_trees c.put.new.self ((name, entry) ∷ []) c.entries-one.ensures.tree (one_file name c.args.bytes c.requires).is_tree
    (λ q. ap (λ h. h q) c.in_ok-put.ensures.ok ∙ ap (λ t. put (entry_at t) name (Some entry) q) c.empty-tree.ensures ∙ one_held name entry q)
