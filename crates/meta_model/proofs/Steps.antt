-- One more entry behind a list.
use Rattle.std.proofs.Common.{◌≡◌, refl, ◌∙◌, ap, ℕ, List, [], ◌∷◌, ◌++◌, fold, false, option_to_list}
use Rattle.std.proofs.lemmas.List.Sums.{fold_push}
use Rattle.std.proofs.lemmas.List.Elements.{filter_map-append}
use Rattle.meta_model.specs.declared.entry.EntryLine.{EntryLine}
use Rattle.meta_model.specs.declared.entry.EntryLine.TheVariants.{Set, Later, Flag, Unset, UnsetFlag, Exported, Task, NoTask}
use Rattle.meta_model.specs.Slot.{Slot, nothing}
use Rattle.meta_model.specs.Base.{value_after, value_slot, flag_after, flag_from, flag_slot, lates_after, lates, name_of, names_in}
use Rattle.meta_model.specs.Tasks.{is_task_after, is_task, comes_after_line, comes_after}

-- the value
pub value_slot-push : (list : List EntryLine) (line : EntryLine) (name : List ℕ) → value_slot (list ++ line ∷ []) name ≡ value_after name (value_slot list name) line
value_slot-push list line name = fold_push (value_after name) nothing list line

-- a flag, from any slots on
flag_from-push : (name flag : List ℕ) (value slot : Slot) (list : List EntryLine) (line : EntryLine) → flag_from name flag value slot (list ++ line ∷ []) ≡ flag_after name flag (fold (value_after name) value list) (flag_from name flag value slot list) line
flag_from-push name flag value slot [] line = refl
flag_from-push name flag value slot (first ∷ list) line = flag_from-push name flag (value_after name value first) (flag_after name flag value slot first) list line

-- a flag
pub flag_slot-push : (list : List EntryLine) (line : EntryLine) (name flag : List ℕ) → flag_slot (list ++ line ∷ []) name flag ≡ flag_after name flag (value_slot list name) (flag_slot list name flag) line
flag_slot-push list line name flag = flag_from-push name flag nothing nothing list line

-- the late entries
pub lates-push : (list : List EntryLine) (line : EntryLine) (name : List ℕ) → lates (list ++ line ∷ []) name ≡ lates_after name (lates list name) line
lates-push list line name = fold_push (lates_after name) [] list line

one_name : (line : EntryLine) → names_in (line ∷ []) ≡ option_to_list (name_of line)
one_name (Set name op text) = refl
one_name (Later target kind when text) = refl
one_name (Flag name f op text) = refl
one_name (Unset name) = refl
one_name (UnsetFlag name f) = refl
one_name (Exported class name) = refl
one_name (Task task after before) = refl
one_name (NoTask task) = refl

-- the names
pub names_in-push : (list : List EntryLine) (line : EntryLine) → names_in (list ++ line ∷ []) ≡ names_in list ++ option_to_list (name_of line)
names_in-push list line = filter_map-append name_of list (line ∷ []) ∙ ap (λ names. names_in list ++ names) (one_name line)

-- the tasks
pub is_task-push : (list : List EntryLine) (line : EntryLine) (name : List ℕ) → is_task (list ++ line ∷ []) name ≡ is_task_after name (is_task list name) line
is_task-push list line name = fold_push (is_task_after name) false list line

pub comes_after-push : (list : List EntryLine) (line : EntryLine) (a b : List ℕ) → comes_after (list ++ line ∷ []) a b ≡ comes_after_line a b (comes_after list a b) line
comes_after-push list line a b = fold_push (comes_after_line a b) false list line
