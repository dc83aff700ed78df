use Rattle.std.proofs.Common.{◌≡◌, List, filter, fold, take}
use Rattle.meta_model.specs.declared.entry.EntryLine.{EntryLine}
use Rattle.meta_model.specs.Frozen.{is_task_line}
use Rattle.datastore.specs.Parts.{moved_with}
use Rattle.datastore.proofs.store.push_past.Given as goal

abbrev pub invariant-loop-part : goal.invariant-loop-part
invariant-loop-part l = (list : List EntryLine) → l.fn.lines.items ≡ filter is_task_line list → l.lines.items ≡ filter is_task_line (fold moved_with list (take l.part-index l.past))
