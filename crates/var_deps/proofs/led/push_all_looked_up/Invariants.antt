use Rattle.std.proofs.Common.{◌≡◌, drop}
use Rattle.task_model.specs.Leads.{all_looked_up}
use Rattle.var_deps.specs.Seen.{seen_with}
use Rattle.meta_model.specs.Passing.{behind}
use Rattle.var_deps.proofs.led.push_all_looked_up.Given as goal

abbrev pub invariant-loop-text : goal.invariant-loop-text
invariant-loop-text l = behind l.fn.list.items (all_looked_up (seen_with l.seen.store.now l.seen.task) l.texts) ≡ behind l.list.items (all_looked_up (seen_with l.seen.store.now l.seen.task) (drop l.text-index l.texts))
