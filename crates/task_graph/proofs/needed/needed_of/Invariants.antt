use Rattle.std.proofs.Common.{◌≡◌, ℕ, length, Some, slice_get}
use Rattle.meta_model.specs.declared.facts.RecipeFacts.{RecipeFacts}
use Rattle.task_graph.specs.declared.needed.Needed.{Needed}
use Rattle.task_graph.specs.Needed.{IsNeeded}
use Rattle.task_graph.proofs.needed.needed_of.Given as goal

abbrev pub invariant-loop-recipe : goal.invariant-loop-recipe
invariant-loop-recipe l = record {
  long : length l.all.items ≡ l.recipe-index;
  each : (r : ℕ) (recipe : RecipeFacts) (needed : Needed) → slice_get l.facts.recipes r ≡ Some recipe → slice_get l.all.items r ≡ Some needed → IsNeeded l.facts recipe needed;
}
