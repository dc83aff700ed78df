use Rattle.std.proofs.Common.{sym, ◌∙◌}
use Rattle.bb_parser.proofs.TaskFacts.{tasks-none}
use Rattle.bb_parser.proofs.tasks.tasks_of.Goals as goal

pub returns-then-not-can_be_task : goal.returns-then-not-can_be_task
returns-then-not-can_be_task c = sym (tasks-none c.args.words.now c.loop-word.word-index c.word-item.result c.loop-word-test.true c.word-item.is
    (rw (c.as_bytes.ensures.value, c.as_str-in-loop-word.ensures, c.in_ok-name.ensures, c.as_str.ensures) at (sym c.can_be_task.ensures ∙ c.if-not-can_be_task.true)))
