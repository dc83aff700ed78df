use Rattle.std.proofs.Common.{◌≡◌, ℕ, List, take}
use Rattle.std.specs.Prelude.{if◌then◌else◌}
use Rattle.std.specs.HashMap.{get_by_text}
use Rattle.meta_model.specs.Text.{is_in}
use Rattle.task_graph.specs.Only.{with_number}
use Rattle.task_graph.proofs.only.note_all.Given as goal

abbrev pub invariant-loop-name : goal.invariant-loop-name
invariant-loop-name l = (q : List ℕ) → get_by_text l.map q ≡ (if is_in q (take l.name-index l.names) then with_number (get_by_text l.fn.map q) l.number else get_by_text l.fn.map q)
