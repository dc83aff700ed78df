use Rattle.std.proofs.Common.{◌≡◌, take, map, filter}
use Rattle.meta_model.specs.Text.{in_byte_order}
use Rattle.task_graph.specs.Candidates.{test_of}
use Rattle.task_graph.proofs.providers.passing_pns.Given as goal

abbrev pub invariant-loop-recipe : goal.invariant-loop-recipe
invariant-loop-recipe l = l.pns.items ≡ in_byte_order (map (λ recipe. recipe.pn) (filter (test_of l.test l.facts l.name) (take l.recipe-index l.recipe-items)))
