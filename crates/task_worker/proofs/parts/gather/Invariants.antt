use Rattle.std.proofs.Common.{◌≡◌, take, filter}
use Rattle.run_model.specs.Layouts.{needed_among}
use Rattle.task_worker.specs.Work.{is_wanted, parts_needed}
use Rattle.task_worker.proofs.parts.gather.Given as goal

abbrev pub invariant-loop-output : goal.invariant-loop-output
invariant-loop-output l = parts_needed l.made.items ≡ filter (is_wanted l.own l.pn) (needed_among l.tasks (take l.output-index l.outputs))
