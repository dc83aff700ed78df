use Rattle.std.proofs.Common.{◌≡◌, take, map}
use Rattle.meta_model.specs.Layout.{dependency_part, overlaid_onto}
use Rattle.task_worker.specs.Work.{parts_needed}
use Rattle.task_worker.proofs.laying.lay_parts.Given as goal

abbrev pub invariant-loop-part : goal.invariant-loop-part
invariant-loop-part l = l.tree ≡ overlaid_onto l.fn.tree (map dependency_part (parts_needed (take l.part-index l.parts)))
