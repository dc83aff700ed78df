use Rattle.std.proofs.Common.{◌≡◌, ℕ, List, take}
use Rattle.std.specs.HashSet.{contains_text}
use Rattle.meta_model.specs.Text.{is_in}
use Rattle.task_graph.proofs.index.set_of.Given as goal

abbrev pub invariant-loop-name : goal.invariant-loop-name
invariant-loop-name l = (q : List ℕ) → contains_text l.set q ≡ is_in q (take l.name-index l.names)
