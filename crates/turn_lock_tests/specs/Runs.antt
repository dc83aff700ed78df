-- The name of a run.
use Rattle.std.specs.Prelude.{ℕ, []}
use Rattle.turn_lock_tests.specs.declared.queue.RunName.{RunName}

-- the run that began at this count
abbrev pub name_of : ℕ → RunName
name_of n = record { count = n; made = [] }
