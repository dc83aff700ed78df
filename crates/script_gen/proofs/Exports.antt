-- The exported names of a store that a script tells.
use Rattle.std.proofs.Common.{◌≡◌, refl, sym, ◌∙◌, ap, ℕ, Bool, true, List, [], Option, Some, None, is_some, filter, Result, Ok, Err, codes}
use Rattle.meta_model.specs.declared.entry.EntryLine.{EntryLine}
use Rattle.meta_model.specs.declared.value.Resolved.{Resolved}
use Rattle.meta_model.specs.Refusal.{Refusal}
use Rattle.meta_model.specs.Base.{flag, names}
use Rattle.meta_model.specs.Active.{find_in}
use Rattle.task_model.specs.Views.{seen_by, has_flag}
use Rattle.task_model.specs.Scripts.{known, told_names}
use Rattle.meta_model.proofs.Ordered.{filtered_in}
use Rattle.task_model.proofs.Faithful.{faithful}
use Rattle.task_model.proofs.ScriptLaw.{filter_in, told_same}

-- a name whose value has the flag `export` has it in the store
flagged : (store : List EntryLine) (task x : List ℕ) (m : Result (Option Resolved) Refusal) → (seen_by task (find_in store)).at x ≡ m → has_flag (codes "export") (known m) ≡ true → is_some (flag store x (codes "export")) ≡ true
flagged store task x (Ok (Some found)) e h = sym (ap is_some ((faithful store task [] []).exported x found e)) ∙ h
flagged store task x (Ok None) e h = absurd cc
flagged store task x (Err refusal) e h = absurd cc

-- so those alone are asked
pub exports_told : (store : List EntryLine) (task : List ℕ)
    → told_names (codes "export") (seen_by task (find_in store)) (filter (λ n. is_some (flag store n (codes "export"))) (names store)) ≡ told_names (codes "export") (seen_by task (find_in store)) (names store)
exports_told store task =
    let find = seen_by task (find_in store) in
    let test : List ℕ → Bool = λ n. is_some (flag store n (codes "export")) in
    told_same (codes "export") find find (filter test (names store)) (names store)
    (λ x h k t. (filter_in test (names store) x h, t))
    (λ x h k t. (filtered_in test (names store) x (λ e. h) ∙ flagged store task x (find.at x) refl t, t))
