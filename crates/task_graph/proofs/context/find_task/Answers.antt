use Rattle.std.proofs.Common.{◌∙◌, sym}
use Rattle.task_graph.proofs.Contexts.{ok_from, task_is_there, task_is_missing}
use Rattle.task_graph.proofs.context.find_task.Goals as goal

pub returns-in-Some-find-clause-ok : goal.returns-in-Some-find-clause-ok
returns-in-Some-find-clause-ok c = task_is_there c.args.facts.now c.args.context.now.table c.requires.context.table c.args.name.now c.args.task.now c.in-Some.recipe c.in-Some-find.number (ok_from _ c.in-Some.recipe (sym c.provider.ensures ∙ c.in-Some.is)) (sym c.find.ensures ∙ c.in-Some-find.is)

pub returns-in_ok-refuse_task-in-None-find-clause-err : goal.returns-in_ok-refuse_task-in-None-find-clause-err
returns-in_ok-refuse_task-in-None-find-clause-err c =
    rw c.in_ok-refuse_task-in-None-find.ensures
    (task_is_missing c.args.facts.now c.args.context.now.table c.requires.context.table c.args.name.now c.args.task.now c.in-Some.recipe (ok_from _ c.in-Some.recipe (sym c.provider.ensures ∙ c.in-Some.is)) (sym c.find.ensures ∙ c.in-None-find.is))
