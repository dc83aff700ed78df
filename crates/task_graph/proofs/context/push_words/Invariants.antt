use Rattle.std.proofs.Common.{◌≡◌, ◌++◌, ℕ, List, take, Ok, All}
use Rattle.std.specs.List.{filter_map}
use Rattle.meta_model.specs.Needs.{Task}
use Rattle.meta_model.specs.GraphRefusal.{word_task}
use Rattle.task_graph.specs.Context.{number_of_word}
use Rattle.task_graph.proofs.context.push_words.Given as goal

abbrev pub invariant-loop-word : goal.invariant-loop-word
invariant-loop-word l = record {
  pushed : l.out.items ≡ l.fn.out.items ++ filter_map (number_of_word l.facts l.context.table) (take l.word-index l.words);
  resolved : All (λ (w : List ℕ × List ℕ). (b : Task) × (word_task l.facts w ≡ Ok b)) (take l.word-index l.words);
}
