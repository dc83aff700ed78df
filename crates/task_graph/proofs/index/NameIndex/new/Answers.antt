use Rattle.std.proofs.Common.{◌∙◌, ap, ℕ, List}
use Rattle.meta_model.specs.declared.facts.RecipeFacts.{RecipeFacts}
use Rattle.meta_model.specs.Providers.{numbers_from, is_named, is_candidate, is_runtime_candidate}
use Rattle.meta_model.specs.Text.{is_in}
use Rattle.task_graph.specs.Only.{only_of}
use Rattle.task_graph.proofs.index.NameIndex.new.Goals as goal

pub returns : goal.returns
returns c = record {
  named = λ q. c.in_ok-index_named.ensures q ∙ ap (λ (xs : List RecipeFacts). only_of (numbers_from (is_named q) 0 xs)) c.as_slice-recipes.ensures;
  building = λ q. c.in_ok-index_candidates.ensures q ∙ ap (λ (xs : List RecipeFacts). only_of (numbers_from (is_candidate q) 0 xs)) c.as_slice-recipes.ensures;
  running = λ q. c.in_ok-index_runtime.ensures q ∙ ap (λ (xs : List RecipeFacts). only_of (numbers_from (is_runtime_candidate q) 0 xs)) c.as_slice-recipes.ensures;
  preferred = c.in_ok-index_preferred.ensures;
  assumed = λ q. c.in_ok-set_of.ensures q ∙ ap (λ (l : List (List ℕ)). is_in q l) c.as_slice.ensures;
}
