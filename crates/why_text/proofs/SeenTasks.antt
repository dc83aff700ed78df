-- Which tasks are seen, worked out task by task.
use Rattle.std.proofs.Common.{◌≡◌, ◌∙◌, sym, ap, subst, ℕ, ◌+◌, ◌<◌, ◌&&◌, Bool, List, [], ◌∷◌, ◌++◌, length, get_or, Option, None, Some, slice_get, drop}
use Rattle.std.specs.List.{list_all}
use Rattle.std.specs.List.{AllByRecursion}
use Rattle.std.specs.Option.{is_some, option_and_then, option_map}
use Rattle.std.proofs.lemmas.List.{drop_more, length-map}
use Rattle.std.proofs.lemmas.Option.{none-some, same_Some, slice_get-get_or, slice_get-map, slice_get_within}
use Rattle.tree_model.specs.declared.hash.Hash.{Hash}
use Rattle.meta_model.specs.declared.plan.PlanTask.{PlanTask}
use Rattle.store_model.specs.declared.signature.EquivRow.{EquivRow}
use Rattle.store_model.specs.Readable.{IsRow}
use Rattle.store_model.specs.Rows.{row_at}
use Rattle.build_store.proofs.Rows.{row_has}
use Rattle.store_model.specs.Signatures.{Signed, signatures}
use Rattle.store_model.specs.Spelling.{name_of}
use Rattle.setscene_plan.specs.Names.{names_over}
use Rattle.setscene_plan.proofs.Naming.{signed_at, signed_count, signed_task}
use Rattle.why_model.specs.Seen.{is_seen, seen_from, seen_next, seen_over}

-- what stands at a place and behind it
drop_at : {A : Type 0} (xs : List A) (i : ℕ) (x : A) → slice_get xs i ≡ Some x → drop i xs ≡ x ∷ drop (i + 1) xs
drop_at xs i x is =
    let lt = slice_get_within xs i x is in
    drop_more xs i x lt ∙ ap (λ y. y ∷ drop (i + 1) xs) (same_Some (get_or xs i x) x (sym (slice_get-get_or xs i x lt) ∙ is))

-- one task more
pub seen_step : (rows : List EquivRow) (tasks : List PlanTask) (names : List Hash) (seen : List Bool) (place : ℕ) (task : PlanTask) (name : Hash) (is : Bool) → names ≡ names_over rows tasks → place < length tasks → slice_get tasks place ≡ Some task → slice_get names place ≡ Some name
    → is ≡ (list_all (is_seen seen) task.deps && is_some (row_at rows name)) → seen_from rows seen (drop place (signatures rows tasks)) ≡ seen_over rows tasks
    → seen_from rows (seen ++ is ∷ []) (drop (place + 1) (signatures rows tasks)) ≡ seen_over rows tasks
seen_step rows tasks names seen place task name is over lt at named told so_far =
    let found = signed_at rows tasks place lt in
    let same : found.0.task ≡ task = same_Some found.0.task task (sym (signed_task rows tasks place found.0 found.1) ∙ at) in
    let own : name_of found.0.sig ≡ name = same_Some (name_of found.0.sig) name
    (sym (ap (λ ns. slice_get ns place) over ∙ slice_get-map (λ (s : Signed). name_of s.sig) (signatures rows tasks) place ∙ ap (λ o. option_map (λ (s : Signed). name_of s.sig) o) found.1) ∙ named) in
    let next : is ≡ seen_next rows seen found.0 = told ∙ ap (λ (t : PlanTask). list_all (is_seen seen) t.deps && is_some (row_at rows name)) (sym same) ∙ ap (λ (h : Hash). list_all (is_seen seen) found.0.task.deps && is_some (row_at rows h)) (sym own) in
    ap (λ (b : Bool). seen_from rows (seen ++ b ∷ []) (drop (place + 1) (signatures rows tasks))) next
    ∙ ap (λ (xs : List Signed). seen_from rows seen xs) (sym (drop_at (signatures rows tasks) place found.0 found.1))
    ∙ so_far

-- each task has a name
pub names_count : (rows : List EquivRow) (tasks : List PlanTask) (names : List Hash) → names ≡ names_over rows tasks → length names ≡ length tasks
names_count rows tasks names over = ap (λ ns. length ns) over ∙ length-map (signatures rows tasks) (λ (s : Signed). name_of s.sig) ∙ signed_count rows tasks

-- what was read at a place
pub at_place : {A : Type 0} (xs : List A) (i : ℕ) (x : A) → i < length xs → x ≡ get_or xs i x → slice_get xs i ≡ Some x
at_place xs i x lt is = slice_get-get_or xs i x lt ∙ ap Some (sym is)

-- a row that is found is one of them
pub row_sound : (rows sound : List EquivRow) (name : Option Hash) (row : EquivRow) → rows ≡ sound → AllByRecursion IsRow sound → Some row ≡ option_and_then (row_at rows) name → IsRow row
row_sound rows sound None row same all is = absurd (none-some row (sym is))
row_sound rows sound (Some name) row same all is = row_has IsRow rows name row (subst (AllByRecursion IsRow) (sym same) all) (sym is)
