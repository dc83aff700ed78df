use Rattle.std.proofs.Common.{◌≡◌, ◌++◌, [], None, drop}
use Rattle.task_model.specs.Keys.{kept_flag, kept_flags, told_flags}
use Rattle.var_deps.specs.Reading.{view_by}
use Rattle.var_deps.proofs.line.task_flags.Given as goal

abbrev pub invariant-loop-place : goal.invariant-loop-place
invariant-loop-place l = told_flags (kept_flag (view_by l.store None [] l.sstate l.task) l.valued) kept_flags ≡ l.list ++ told_flags (kept_flag (view_by l.store None [] l.sstate l.task) l.valued) (drop l.place kept_flags)
