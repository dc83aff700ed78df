-- A name without the flag `func` is no function.
use Rattle.std.proofs.Common.{◌≡◌, refl, ap, ℕ, List, [], ◌∷◌, ◌++◌, Bool, false, ◌&&◌, inl, inr, Option, Some, None, is_some, option_map, option_to_list, Ok, codes, bytes_eq, if◌then◌else◌}
use Rattle.std.specs.Map.{lookup}
use Rattle.meta_model.proofs.Bools.{either_way}
use Rattle.meta_model.specs.declared.entry.EntryLine.{EntryLine}
use Rattle.meta_model.specs.declared.value.Resolved.{Resolved}
use Rattle.meta_model.specs.Base.{flag}
use Rattle.meta_model.specs.Overrides.{resolved}
use Rattle.meta_model.specs.Active.{active}
use Rattle.task_model.specs.Views.{is_function, is_bare, unless_bare}
use Rattle.var_deps.specs.Seen.{seen_with}
use Rattle.var_deps.specs.Reading.{function_named}

not_told : (e f : Option (List ℕ)) → f ≡ None
    → is_some (lookup (bytes_eq (codes "func")) (option_to_list (option_map (λ (t : List ℕ). (codes "export", t)) e) ++ option_to_list (option_map (λ (t : List ℕ). (codes "func", t)) f))) ≡ false
not_told None f h = rw h refl
not_told (Some text) f h = rw h refl

plainly : (text : Option (List ℕ)) (removes : List (List ℕ)) (e f : Option (List ℕ)) → f ≡ None
    → is_function (option_map (λ t. let made : Resolved = record { text = t; removes = removes; flags = option_to_list (option_map (λ (u : List ℕ). (codes "export", u)) e) ++ option_to_list (option_map (λ (u : List ℕ). (codes "func", u)) f) } in made) text) ≡ false
plainly None removes e f h = refl
plainly (Some text) removes e f h = not_told e f h

unless : (own : Bool) (found : Option Resolved) → is_function found ≡ false → is_function (unless_bare own found) ≡ false
unless own None h = refl
unless own (Some found) h = elim (either_way (own && is_bare found)) [
  | inl t ↦ rw t refl
  | inr t ↦ rw t h
]

resolved_no_function : (list : List EntryLine) (under : List (List ℕ)) (name : List ℕ) → flag list name (codes "func") ≡ None → is_function (resolved list under name) ≡ false
resolved_no_function list under name h = plainly _ _ (flag list name (codes "export")) (flag list name (codes "func")) h

pub no_function : (list : List EntryLine) (own : Option (List ℕ)) (name : List ℕ) (under : List (List ℕ)) → active list ≡ Ok under → flag list name (codes "func") ≡ None → function_named (seen_with list own) name ≡ Ok []
no_function list None name under e h = rw e (ap (λ b. Ok (if b then name ∷ [] else [])) (resolved_no_function list under name h))
no_function list (Some task) name under e h = rw e (ap (λ b. Ok (if b then name ∷ [] else [])) (unless (bytes_eq name task) (resolved list under name) (resolved_no_function list under name h)))
