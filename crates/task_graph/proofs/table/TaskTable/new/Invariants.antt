use Rattle.std.proofs.Common.{◌≡◌, ℕ, ◌<◌, List, length, Some, slice_get}
use Rattle.std.specs.Option.{option_and_then}
use Rattle.std.specs.HashMap.{get_by_text}
use Rattle.meta_model.specs.declared.facts.RecipeFacts.{RecipeFacts}
use Rattle.task_graph.specs.Table.{HasTasks}
use Rattle.task_graph.proofs.table.TaskTable.new.Given as goal

abbrev pub invariant-loop-number : goal.invariant-loop-number
invariant-loop-number l = record {
  long : length l.places.items ≡ l.number;
  each : (r : ℕ) (recipe : RecipeFacts) → r < l.number → slice_get l.facts.recipes r ≡ Some recipe → (base : ℕ) × HasTasks l.spots.items r base recipe.tasks (λ (q : List ℕ). option_and_then (λ places. get_by_text places q) (slice_get l.places.items r));
}
