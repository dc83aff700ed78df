-- The tests by which the provider of a name is looked for.
use Rattle.std.specs.Prelude.{ℕ, Bool, List}
use Rattle.meta_model.specs.declared.facts.FactSet.{FactSet}
use Rattle.meta_model.specs.declared.facts.RecipeFacts.{RecipeFacts}
use Rattle.meta_model.specs.Providers.{is_preferred, is_named, is_candidate, is_runtime_candidate}
use Rattle.task_graph.specs.declared.providers.Test.{Test}
use Rattle.task_graph.specs.declared.providers.Test.TheVariants.{Preferred, Named, Candidate, RuntimeCandidate}

-- the test of recipes that each way of looking for a name has
abbrev pub test_of : Test → FactSet → List ℕ → RecipeFacts → Bool
test_of Preferred facts name = is_preferred facts name
test_of Named facts name = is_named name
test_of Candidate facts name = is_candidate name
test_of RuntimeCandidate facts name = is_runtime_candidate name
