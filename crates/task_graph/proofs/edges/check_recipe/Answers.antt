use Rattle.std.proofs.Common.{◌∙◌, sym, ap, List, slice_get}
use Rattle.std.specs.Option.{option_copied}
use Rattle.task_graph.specs.declared.needed.Needed.{Needed}
use Rattle.task_graph.proofs.Checking.{none_needed}
use Rattle.task_graph.proofs.edges.check_recipe.Goals as goal

pub check_needed-requires-clause-needed : goal.check_needed-requires-clause-needed
check_needed-requires-clause-needed c = c.requires.context.needed.each c.args.number c.in-Some.recipe.now c.in-Some-needed_at.needed.now (sym c.recipe_at.ensures ∙ ap option_copied c.in-Some.is)
    (ap (λ (l : List Needed). slice_get l c.args.number) (sym c.deref.ensures.value) ∙ sym c.needed_at.ensures ∙ ap option_copied c.in-Some-needed_at.is)

pub returns-in-None-needed_at-clause-ok : goal.returns-in-None-needed_at-clause-ok
returns-in-None-needed_at-clause-ok c = λ recipe at. none_needed c.args.facts.now c.args.context.now.needed.items c.args.number recipe c.requires.context.needed at
    (ap (λ (l : List Needed). slice_get l c.args.number) (sym c.deref.ensures.value) ∙ sym c.needed_at.ensures ∙ ap option_copied c.in-None-needed_at.is)
