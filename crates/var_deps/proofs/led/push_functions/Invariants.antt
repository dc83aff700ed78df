use Rattle.std.proofs.Common.{◌≡◌, drop}
use Rattle.task_model.specs.Leads.{functions_of}
use Rattle.var_deps.specs.Seen.{seen_with}
use Rattle.meta_model.specs.Passing.{behind}
use Rattle.var_deps.proofs.led.push_functions.Given as goal

abbrev pub invariant-loop-name : goal.invariant-loop-name
invariant-loop-name l = behind l.fn.list.items (functions_of (seen_with l.seen.store.now l.seen.task) l.names) ≡ behind l.list.items (functions_of (seen_with l.seen.store.now l.seen.task) (drop l.name-index l.names))
