use Rattle.std.proofs.Common.{◌≡◌, false, take}
use Rattle.std.specs.List.{list_any}
use Rattle.task_graph.specs.Candidates.{test_of}
use Rattle.task_graph.proofs.providers.any_passes.Given as goal

abbrev pub invariant-loop-recipe : goal.invariant-loop-recipe
invariant-loop-recipe l = list_any (test_of l.test l.facts l.name) (take l.recipe-index l.recipe-items) ≡ false
