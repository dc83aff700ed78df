use Rattle.std.proofs.Common.{◌≡◌, ◌∙◌, ap, ◌++◌, ◌∷◌, [], filter}
use Rattle.meta_model.specs.Tasks.{comes_after, task_names}
use Rattle.datastore.proofs.tasks.push_task.Goals as goal

pub returns : goal.returns
returns c = λ list orders set.
    let made = c.args.made.now.items in
    let order : c.in_ok-before.before ≡ filter (comes_after list c.args.task.now) (task_names list) =
    c.in_ok-before.ensures list orders set ∙ ap (λ t. filter (comes_after list t) (task_names list)) c.as_str.ensures in
    c.in_ok-push.ensures.items ∙ ap (λ t. made ++ (t, c.in_ok-before.before) ∷ []) c.in_ok-task.ensures ∙ ap (λ o. made ++ (c.args.task.now, o) ∷ []) order
