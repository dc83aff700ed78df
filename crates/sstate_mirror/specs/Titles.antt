-- The wanted titles, kept by their PNs.
use Rattle.std.specs.Prelude.{◌≡◌, ℕ, Bool, List, [], bytes_eq, unwrap_or, ◌&&◌, String}
use Rattle.std.specs.List.{list_any}
use Rattle.std.specs.BTreeMap.{BTreeMap, get_by_text}
use Rattle.std.specs.declared.alloc.Global.{Global}
use Rattle.sstate_mirror.specs.Wanted.{Titles}

-- the tasks that are kept for a PN
abbrev pub tasks_of : BTreeMap (String Global) (List (List ℕ)) → List ℕ → List (List ℕ)
tasks_of map pn = unwrap_or (get_by_text map pn) []

-- whether a task is among these
abbrev pub is_task : List (List ℕ) → List ℕ → Bool
is_task tasks task = list_any (λ (t : List ℕ). bytes_eq t task) tasks

-- A task is kept for a PN just where the two are a wanted title.
abbrev pub AreTitles : Titles → BTreeMap (String Global) (List (List ℕ)) → Type 0
AreTitles wanted map = (pn task : List ℕ) → is_task (tasks_of map pn) task ≡ list_any (λ (t : List ℕ × List ℕ). bytes_eq t.0 pn && bytes_eq t.1 task) wanted
