use Rattle.std.proofs.Common.{◌≡◌, ℕ, List, take, is_some}
use Rattle.std.specs.BTreeMap.{get_by_text}
use Rattle.meta_model.specs.Tasks.{is_task}
use Rattle.datastore.proofs.tasks.tasks_of.Given as goal

abbrev pub invariant-loop-line : goal.invariant-loop-line
invariant-loop-line l = (t : List ℕ) → is_some (get_by_text l.set t) ≡ is_task (take l.line-index l.lines) t
