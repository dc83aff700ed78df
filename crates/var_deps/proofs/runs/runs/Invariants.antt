use Rattle.std.proofs.Common.{◌≡◌, ◌++◌, length}
use Rattle.task_model.specs.Leads.{functions_of, runs}
use Rattle.var_deps.specs.Seen.{seen_with}
use Rattle.var_deps.proofs.runs.runs.Given as goal

-- the functions among the runs so far, and those of the rest
abbrev pub invariant-loop-end : goal.invariant-loop-end
invariant-loop-end l = functions_of (seen_with l.seen.store.now l.seen.task) (l.list ++ runs l.rest) ≡ functions_of (seen_with l.seen.store.now l.seen.task) (runs l.text)

abbrev pub decreases-loop-end : goal.decreases-loop-end
decreases-loop-end l = length l.rest
