use Rattle.std.proofs.Common.{◌≡◌, take}
use Rattle.std.specs.Prelude.{option_to_list}
use Rattle.meta_model.specs.Providers.{numbers_from}
use Rattle.task_graph.specs.Candidates.{test_of}
use Rattle.task_graph.proofs.providers.only_one.Given as goal

abbrev pub invariant-loop-n : goal.invariant-loop-n
invariant-loop-n l = numbers_from (test_of l.test l.facts l.name) 0 (take l.n l.facts.recipes) ≡ option_to_list l.found
