use Rattle.std.proofs.Common.{◌∙◌, ap, sym, refl, ◌+◌, drop}
use Rattle.load_model.specs.Facts.{task_facts, all_tasks}
use Rattle.meta_model.specs.Passing.{behind}
use Rattle.meta_model.proofs.Passing.{one_turn}
use Rattle.recipe_facts.proofs.Binding.{exit, one_fault}
use Rattle.recipe_facts.proofs.tasks.all_tasks.Goals as goal

pub returns-in_err-task_facts-clause-err : goal.returns-in_err-task_facts-clause-err
returns-in_err-task_facts-clause-err c =
    let lines = c.args.store.now in
    let fault = c.in_err-task_facts.field-0.0 in
    exit c.from_residual.result fault (all_tasks lines c.args.tasks.now) c.from_residual.ensures.1
    (one_fault (task_facts lines) (all_tasks lines) (λ b rest. refl) (all_tasks lines c.args.tasks.now) c.loop-task.made c.args.tasks.now c.loop-task.task-index c.task-item.result fault c.task-item.is c.loop-task-test.true c.loop-task.invariant c.in_err-task_facts.ensures.err)

pub loop-task-preserved : goal.loop-task-preserved
loop-task-preserved c =
    let lines = c.args.store.now in
    one_turn (task_facts lines) (all_tasks lines) (λ b rest. refl) (all_tasks lines c.args.tasks.now) c.loop-task.made c.args.tasks.now c.loop-task.task-index c.task-item.result c.in_ok-task_facts.field-0 c.task-item.is c.loop-task-test.true c.loop-task.invariant c.in_ok-task_facts.ensures.ok
    ∙ ap (λ m. behind m (all_tasks lines (drop (c.loop-task.task-index + 1) c.args.tasks.now))) (sym c.in_ok-push.ensures.ok)
