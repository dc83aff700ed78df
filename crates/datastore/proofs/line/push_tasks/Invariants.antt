use Rattle.std.proofs.Common.{◌≡◌, ◌++◌, filter, take}
use Rattle.meta_model.specs.Frozen.{is_task_line}
use Rattle.datastore.proofs.line.push_tasks.Given as goal

abbrev pub invariant-loop-line : goal.invariant-loop-line
invariant-loop-line l = l.lines.items ≡ l.fn.lines.items ++ filter is_task_line (take l.line-index l.all)
