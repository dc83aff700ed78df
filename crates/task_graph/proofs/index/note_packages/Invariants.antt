use Rattle.std.proofs.Common.{◌≡◌, ℕ, List, take}
use Rattle.std.specs.Prelude.{if◌then◌else◌}
use Rattle.std.specs.List.{list_any}
use Rattle.std.specs.HashMap.{get_by_text}
use Rattle.meta_model.specs.Providers.{is_package_for}
use Rattle.task_graph.specs.Only.{with_number}
use Rattle.task_graph.proofs.index.note_packages.Given as goal

abbrev pub invariant-loop-package : goal.invariant-loop-package
invariant-loop-package l = (q : List ℕ) → get_by_text l.map q ≡ (if list_any (is_package_for q) (take l.package-index l.packages) then with_number (get_by_text l.fn.map q) l.number else get_by_text l.fn.map q)
