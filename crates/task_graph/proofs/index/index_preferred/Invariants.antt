use Rattle.std.proofs.Common.{◌≡◌, ℕ, List, take}
use Rattle.std.specs.HashMap.{get_by_text}
use Rattle.meta_model.specs.Providers.{numbers_from, is_preferred}
use Rattle.task_graph.specs.Only.{only_of}
use Rattle.task_graph.proofs.index.index_preferred.Given as goal

abbrev pub invariant-loop-number : goal.invariant-loop-number
invariant-loop-number l = (q : List ℕ) → get_by_text l.map q ≡ only_of (numbers_from (is_preferred l.facts q) 0 (take l.number l.facts.recipes))
