use Rattle.std.proofs.Common.{◌≡◌, ◌<◌, ℕ, Some, slice_get}
use Rattle.meta_model.specs.declared.facts.RecipeFacts.{RecipeFacts}
use Rattle.task_graph.specs.Edges.{HasAllProviders}
use Rattle.task_graph.proofs.edges.check_below.Given as goal

abbrev pub invariant-loop-number : goal.invariant-loop-number
invariant-loop-number l = (k n : ℕ) (recipe : RecipeFacts) → k < l.number-index → slice_get l.below k ≡ Some n → slice_get l.facts.recipes n ≡ Some recipe → HasAllProviders l.facts recipe
