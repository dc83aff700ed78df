use Rattle.std.proofs.Common.{◌≡◌, ℕ, ◌<◌, ◌≤◌}
use Rattle.std.specs.Prelude.{decimal}
use Rattle.meta_model.specs.Threads.{trimmed}
use Rattle.task_graph.proofs.threads.threads_of.Given as goal

abbrev pub invariant-loop-threads : goal.invariant-loop-threads
invariant-loop-threads l = (k : ℕ) → 1 ≤ k → k < l.threads-counter → trimmed l.text ≡ decimal k → ⊥
