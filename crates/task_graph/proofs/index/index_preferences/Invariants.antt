use Rattle.std.proofs.Common.{◌≡◌, ℕ, List, take, bytes_eq}
use Rattle.std.specs.HashMap.{get_by_text}
use Rattle.task_graph.specs.Only.{first_place}
use Rattle.task_graph.proofs.index.index_preferences.Given as goal

abbrev pub invariant-loop-place : goal.invariant-loop-place
invariant-loop-place l = (q : List ℕ) → get_by_text l.map q ≡ first_place (λ p. bytes_eq p.0 q) 0 (take l.place l.preferences)
