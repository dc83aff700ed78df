-- A name that no entry's name begins with has nothing.
use Rattle.std.proofs.Common.{◌≡◌, refl, ◌∙◌, ap, ℕ, List, [], ◌++◌, flat_map, false, ◌⊎◌, Option, Some, None, unwrap_or, Result, Ok, Err, inl, inr, bytes_eq, codes}
use Rattle.meta_model.specs.declared.entry.EntryLine.{EntryLine}
use Rattle.meta_model.specs.declared.value.Resolved.{Resolved}
use Rattle.meta_model.specs.Refusal.{Refusal, ◌>>=◌}
use Rattle.meta_model.specs.Text.{is_in, words}
use Rattle.meta_model.specs.Base.{flag, names}
use Rattle.meta_model.specs.Expansion.{Find, expand_by}
use Rattle.meta_model.specs.Overrides.{resolved}
use Rattle.meta_model.specs.Active.{active}
use Rattle.task_model.specs.Views.{unless_bare}
use Rattle.task_model.specs.Leads.{without}
use Rattle.task_model.specs.Keys.{fronts, names_led}
use Rattle.task_model.proofs.Leaders.{gone_of, not_resolved, unnamed}
use Rattle.var_deps.specs.Seen.{seen_with}
use Rattle.var_deps.specs.Known.{read_led}
use Rattle.var_deps.specs.Reading.{view_by, led_behind}

-- where the active overrides are refused, all names are

abbrev found_by : Option (List ℕ) → List ℕ → Result (Option Resolved) Refusal → Result (Option Resolved) Refusal
found_by None name m = m
found_by (Some task) name m = m >>= λ found. Ok (unless_bare (bytes_eq name task) found)

abbrev found_under : List EntryLine → Option (List ℕ) → List ℕ → Result (List (List ℕ)) Refusal → Result (Option Resolved) Refusal
found_under list task name m = found_by task name (m >>= λ under. Ok (resolved list under name))

nothing_found : (task : Option (List ℕ)) (name : List ℕ) → found_by task name (Ok None) ≡ Ok None
nothing_found None name = refl
nothing_found (Some task) name = refl

found_refused : (task : Option (List ℕ)) (name : List ℕ) (refusal : Refusal) → found_by task name (Err refusal) ≡ Err refusal
found_refused None name refusal = refl
found_refused (Some task) name refusal = refl

seen_under : (list : List EntryLine) (task : Option (List ℕ)) (name : List ℕ) → (seen_with list task).at name ≡ found_under list task name (active list)
seen_under list None name = refl
seen_under list (Some task) name = refl

absent : (list : List EntryLine) (task : Option (List ℕ)) (name : List ℕ) → is_in name (flat_map fronts (names list)) ≡ false → (under : Result (List (List ℕ)) Refusal) → active list ≡ under → ((seen_with list task).at name ≡ Ok None) ⊎ ((refusal : Refusal) × ((seen_with list task).at name ≡ Err refusal))
absent list task name h (Ok under) e = inl (seen_under list task name ∙ ap (found_under list task name) e ∙ ap (λ found. found_by task name (Ok found)) (not_resolved list under name h) ∙ nothing_found task name)
absent list task name h (Err refusal) e = inr (refusal, seen_under list task name ∙ ap (found_under list task name) e ∙ found_refused task name refusal)

-- what a name leads to of which nothing is found, by two of its flags
abbrev flags_led : Find → List (List ℕ) → Option (List ℕ) → Option (List ℕ) → List (List ℕ)
flags_led find ignored deps excluded = names_led (((expand_by find (unwrap_or deps []) >>= λ text. Ok (words text)) >>= λ all. Ok all) >>= λ all. (expand_by find (unwrap_or excluded []) >>= λ text. Ok (words text)) >>= λ excluded. Ok (without (ignored ++ excluded) all))

-- such a name leads nowhere
pub absent_nowhere : (list : List EntryLine) (task : Option (List ℕ)) (ignored : List (List ℕ)) (name : List ℕ) → is_in name (flat_map fronts (names list)) ≡ false → names_led (read_led (view_by list task ignored false []) false name) ≡ []
absent_nowhere list task ignored name h =
    let view = view_by list task ignored false [] in
    let gone = gone_of list name (unnamed list name h) in
    elim (absent list task name h (active list) refl) [
      | inl none ↦ ap (λ m. names_led (m >>= led_behind view false name)) none
          ∙ ap (λ deps. flags_led (seen_with list task) ignored deps (flag list name (codes "vardepsexclude"))) (gone.flags (codes "vardeps"))
          ∙ ap (flags_led (seen_with list task) ignored None) (gone.flags (codes "vardepsexclude"))
      | inr refused ↦ ap (λ m. names_led (m >>= led_behind view false name)) refused.1
    ]
