use Rattle.std.proofs.Common.{sym, subst}
use Rattle.std.specs.Prelude.{All}
use Rattle.task_worker.specs.Work.{HasNames}
use Rattle.task_worker.proofs.Laid.{layout_within, names_of, task_read}
use Rattle.task_worker.proofs.laying.layout.Goals as goal

pub laid_out-requires-clause-names : goal.laid_out-requires-clause-names
laid_out-requires-clause-names c = subst (All HasNames) (sym c.as_slice-tasks.ensures) (names_of c.args.plan.now c.requires.runnable)

pub laid_out-requires-clause-files : goal.laid_out-requires-clause-files
laid_out-requires-clause-files c =
    let read = c.index-tasks-task.result in
    (c.requires.runnable.tasks c.args.task read (task_read c.args.plan.now c.as_slice-tasks.result.now c.args.task read c.as_slice-tasks.ensures c.requires.task c.index-tasks-task.is)).parts

pub returns : goal.returns
returns c task here =
    let read = c.index-tasks-task.result in
    layout_within c.args.plan.now.tasks c.as_slice-tasks.result.now c.args.task read task c.args.outputs.now c.in_ok-tree.tree c.within_layout.result c.as_slice-tasks.ensures
    (task_read c.args.plan.now c.as_slice-tasks.result.now c.args.task read c.as_slice-tasks.ensures c.requires.task c.index-tasks-task.is) c.in_ok-tree.ensures c.within_layout.ensures here
