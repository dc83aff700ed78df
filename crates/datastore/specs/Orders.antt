-- Which orders of tasks a store notes. It goes from the last entry to the first, so that it knows which tasks go later.
use Rattle.std.specs.Prelude.{◌≡◌, ℕ, Bool, false, not, ◌||◌, List, [], ◌∷◌, filter, Option, Some, None, is_some, String, bytes_eq}
use Rattle.std.specs.Global.{Global}
use Rattle.std.specs.BTreeMap.{BTreeMap, get_by_text}
use Rattle.meta_model.specs.declared.entry.EntryLine.{EntryLine}
use Rattle.meta_model.specs.declared.entry.EntryLine.TheVariants.{NoTask}
use Rattle.meta_model.specs.Tasks.{comes_after, task_names}

-- an entry takes the task away
abbrev pub goes : List ℕ → EntryLine → Bool
goes task (NoTask gone) = bytes_eq gone task
goes task _ = false

-- one of the entries takes the task away
abbrev pub is_gone : List EntryLine → List ℕ → Bool
is_gone [] task = false
is_gone (line ∷ lines) task = goes task line || is_gone lines task

-- a task with those that it comes after
abbrev pub with_order : List EntryLine → List ℕ → List ℕ × List (List ℕ)
with_order list task = (task, filter (comes_after list task) (task_names list))

module _ {A : Type 0} where
  -- the name is in the set, where there is one
  abbrev pub is_noted : Option (BTreeMap (String Global) A) → List ℕ → Bool
  is_noted None name = false
  is_noted (Some set) name = is_some (get_by_text set name)

  -- the first task is noted to come after the second
  abbrev pub comes : BTreeMap (String Global) (BTreeMap (String Global) A) → List ℕ → List ℕ → Bool
  comes orders a b = is_noted (get_by_text orders a) b

  -- neither of two tasks is in the set of those that go
  abbrev pub stay : BTreeMap (String Global) A → List ℕ → List ℕ → Bool
  stay gone a b = not (is_some (get_by_text gone a) || is_some (get_by_text gone b))

  -- the orders are those that entries leave
  abbrev pub IsOrderOf : List EntryLine → BTreeMap (String Global) (BTreeMap (String Global) A) → Type 0
  IsOrderOf list orders = (a b : List ℕ) → comes orders a b ≡ comes_after list a b
