-- The tasks of entries.
use Rattle.std.proofs.Common.{◌≡◌, refl, ◌∙◌, ap, ℕ, List, [], ◌∷◌, fold, filter, filter_map, Bool, true, false, not, ◌&&◌, ◌||◌, Option, Some, None, is_some, bytes_eq, inl, inr, String, BTreeMap}
use Rattle.std.specs.Global.{Global}
use Rattle.std.specs.BTreeMap.{get_by_text, IsOrdered}
use Rattle.std.specs.String.{string_cmp}
use Rattle.meta_model.proofs.Bools.{not_both, either_way, or_left, or_right, differs}
use Rattle.meta_model.specs.declared.entry.EntryLine.{EntryLine}
use Rattle.meta_model.specs.declared.entry.EntryLine.TheVariants.{Set, Later, Flag, Unset, UnsetFlag, Exported, Task, NoTask}
use Rattle.meta_model.specs.Text.{is_in}
use Rattle.meta_model.specs.Frozen.{is_task_line}
use Rattle.meta_model.specs.Tasks.{is_task, is_task_after, comes_after, comes_after_line, task_in, task_names}
use Rattle.value_maps.specs.Picked.{picked, passes}
use Rattle.value_maps.proofs.Picked.{picked_is}

none_there : (b : Bool) → (not b && false) ≡ false
none_there true = refl
none_there false = refl

task_unnamed : (list : List EntryLine) (t : List ℕ) → is_in t (filter_map task_in list) ≡ false → fold (is_task_after t) false list ≡ false
task_unnamed [] t h = refl
task_unnamed (Set n op text ∷ rest) t h = task_unnamed rest t h
task_unnamed (Later n kind when text ∷ rest) t h = task_unnamed rest t h
task_unnamed (Flag n f op text ∷ rest) t h = task_unnamed rest t h
task_unnamed (Unset n ∷ rest) t h = task_unnamed rest t h
task_unnamed (UnsetFlag n f ∷ rest) t h = task_unnamed rest t h
task_unnamed (Exported class n ∷ rest) t h = task_unnamed rest t h
task_unnamed (Task n after before ∷ rest) t h = rw (differs t n (or_left (bytes_eq t n) (is_in t (filter_map task_in rest)) h)) (task_unnamed rest t (or_right (bytes_eq t n) (is_in t (filter_map task_in rest)) h))
task_unnamed (NoTask n ∷ rest) t h = ap (λ b. fold (is_task_after t) b rest) (none_there (bytes_eq n t)) ∙ task_unnamed rest t h

pub task_named : (list : List EntryLine) (t : List ℕ) → is_task list t ≡ true → is_in t (filter_map task_in list) ≡ true
task_named list t h = elim (either_way (is_in t (filter_map task_in list))) [
  | inl i ↦ i
  | inr e ↦ not_both (is_task list t) h (task_unnamed list t e)
]

pub there_passes : {V : Type 0} (o : Option V) → passes (λ there. true) o ≡ is_some o
there_passes None = refl
there_passes (Some v) = refl

-- the names of a set of tasks
pub tasks_are : {V : Type 0} (list : List EntryLine) (set : BTreeMap (String Global) V) → IsOrdered string_cmp set → ((t : List ℕ) → is_some (get_by_text set t) ≡ is_task list t) → picked (λ there. true) set.entries ≡ task_names list
tasks_are list set ordered same =
    picked_is set (λ there. true) (is_task list) (filter_map task_in list) ordered (λ t. there_passes (get_by_text set t) ∙ same t) (λ t. task_named list t)

-- entries of no task change nothing

task_kept : (list : List EntryLine) (t : List ℕ) (there : Bool) → fold (is_task_after t) there (filter is_task_line list) ≡ fold (is_task_after t) there list
task_kept [] t there = refl
task_kept (Set n op text ∷ rest) t there = task_kept rest t there
task_kept (Later n kind when text ∷ rest) t there = task_kept rest t there
task_kept (Flag n f op text ∷ rest) t there = task_kept rest t there
task_kept (Unset n ∷ rest) t there = task_kept rest t there
task_kept (UnsetFlag n f ∷ rest) t there = task_kept rest t there
task_kept (Exported class n ∷ rest) t there = task_kept rest t there
task_kept (Task n after before ∷ rest) t there = task_kept rest t (bytes_eq n t || there)
task_kept (NoTask n ∷ rest) t there = task_kept rest t (not (bytes_eq n t) && there)

pub task_lines_are : (list lines : List EntryLine) → lines ≡ filter is_task_line list → (t : List ℕ) → is_task lines t ≡ is_task list t
task_lines_are list lines e t = ap (λ l. is_task l t) e ∙ task_kept list t false

order_kept : (list : List EntryLine) (a b : List ℕ) (there : Bool) → fold (comes_after_line a b) there (filter is_task_line list) ≡ fold (comes_after_line a b) there list
order_kept [] a b there = refl
order_kept (Set n op text ∷ rest) a b there = order_kept rest a b there
order_kept (Later n kind when text ∷ rest) a b there = order_kept rest a b there
order_kept (Flag n f op text ∷ rest) a b there = order_kept rest a b there
order_kept (Unset n ∷ rest) a b there = order_kept rest a b there
order_kept (UnsetFlag n f ∷ rest) a b there = order_kept rest a b there
order_kept (Exported class n ∷ rest) a b there = order_kept rest a b there
order_kept (Task n after before ∷ rest) a b there = order_kept rest a b (comes_after_line a b there (Task n after before))
order_kept (NoTask n ∷ rest) a b there = order_kept rest a b (comes_after_line a b there (NoTask n))

pub order_lines_are : (list lines : List EntryLine) → lines ≡ filter is_task_line list → (a b : List ℕ) → comes_after lines a b ≡ comes_after list a b
order_lines_are list lines e a b = ap (λ l. comes_after l a b) e ∙ order_kept list a b false
