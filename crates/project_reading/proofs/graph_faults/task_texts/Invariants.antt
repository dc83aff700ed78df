use Rattle.std.proofs.Common.{◌≡◌, take, map}
use Rattle.answer_model.specs.Said.{id_text}
use Rattle.project_reading.proofs.graph_faults.task_texts.Given as goal

abbrev pub invariant-loop-task : goal.invariant-loop-task
invariant-loop-task l = l.made ≡ map id_text (take l.task-index l.tasks)
