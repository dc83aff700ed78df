use Rattle.std.proofs.Common.{◌≡◌, drop}
use Rattle.std.specs.List.{filter_map}
use Rattle.meta_model.specs.Base.{flag}
use Rattle.task_model.specs.Leads.{all_looked_up, read_flags}
use Rattle.var_deps.specs.Seen.{seen_with}
use Rattle.meta_model.specs.Passing.{behind}
use Rattle.var_deps.proofs.led.push_flags.Given as goal

abbrev pub invariant-loop-place : goal.invariant-loop-place
invariant-loop-place l = behind l.fn.list.items (all_looked_up (seen_with l.seen.store.now l.seen.task) (filter_map (flag l.seen.store.now l.task) read_flags)) ≡ behind l.list.items (all_looked_up (seen_with l.seen.store.now l.seen.task) (filter_map (flag l.seen.store.now l.task) (drop l.place read_flags)))
