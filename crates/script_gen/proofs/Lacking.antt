-- A name without a flag isn't told as one that has it.
use Rattle.std.proofs.Common.{◌≡◌, refl, sym, ◌∙◌, ap, subst, ℕ, List, [], ◌++◌, Bool, false, ◌&&◌, inl, inr, Option, Some, None, is_some, option_map, option_to_list, append-nil, Result, Ok, Err, codes, bytes_eq}
use Rattle.std.specs.Map.{lookup}
use Rattle.meta_model.proofs.Bools.{either_way, same_text}
use Rattle.meta_model.specs.declared.entry.EntryLine.{EntryLine}
use Rattle.meta_model.specs.declared.value.Resolved.{Resolved}
use Rattle.meta_model.specs.Base.{flag}
use Rattle.meta_model.specs.Refusal.{Refusal, ◌>>=◌}
use Rattle.meta_model.specs.Overrides.{flag_if_set, resolved}
use Rattle.meta_model.specs.Active.{active, find_in}
use Rattle.task_model.specs.Views.{has_flag, is_bare, unless_bare, seen_by}
use Rattle.task_model.specs.Scripts.{known}

abbrev Flags : Type 0
Flags = List (List ℕ × List ℕ)

-- flags that are told are passed over, where the one that is sought isn't set
passed_at : (f g : List ℕ) (o : Option (List ℕ)) (rest : Flags) → bytes_eq f g ≡ false → lookup (bytes_eq f) (option_to_list (option_map (λ (text : List ℕ). (g, text)) o) ++ rest) ≡ lookup (bytes_eq f) rest
passed_at f g None rest other = refl
passed_at f g (Some text) rest other = rw other refl

passed : (list : List EntryLine) (name f g : List ℕ) (rest : Flags) → flag list name f ≡ None → lookup (bytes_eq f) (flag_if_set list name g ++ rest) ≡ lookup (bytes_eq f) rest
passed list name f g rest none = elim (either_way (bytes_eq f g)) [
  | inl same ↦ let unset : flag list name g ≡ None = subst (λ t. flag list name t ≡ None) (same_text f g same) none in rw unset refl
  | inr other ↦ passed_at f g (flag list name g) rest other
]

untold : (list : List EntryLine) (name f : List ℕ) → flag list name f ≡ None → is_some (lookup (bytes_eq f) (flag_if_set list name (codes "export") ++ flag_if_set list name (codes "func"))) ≡ false
untold list name f none =
    let func = flag_if_set list name (codes "func") in
    ap is_some (passed list name f (codes "export") func none ∙ ap (lookup (bytes_eq f)) (sym (append-nil func)) ∙ passed list name f (codes "func") [] none)

plainly : (f : List ℕ) (text : Option (List ℕ)) (removes : List (List ℕ)) (flags : Flags) → is_some (lookup (bytes_eq f) flags) ≡ false
    → has_flag f (option_map (λ t. let made : Resolved = record { text = t; removes = removes; flags = flags } in made) text) ≡ false
plainly f None removes flags h = refl
plainly f (Some text) removes flags h = h

resolved_lacks : (list : List EntryLine) (under : List (List ℕ)) (name f : List ℕ) → flag list name f ≡ None → has_flag f (resolved list under name) ≡ false
resolved_lacks list under name f none = plainly f _ _ (flag_if_set list name (codes "export") ++ flag_if_set list name (codes "func")) (untold list name f none)

unless : (f : List ℕ) (own : Bool) (found : Option Resolved) → has_flag f found ≡ false → has_flag f (unless_bare own found) ≡ false
unless f own None h = refl
unless f own (Some found) h = elim (either_way (own && is_bare found)) [
  | inl t ↦ rw t refl
  | inr t ↦ rw t h
]

known_lacks : (list : List EntryLine) (name f : List ℕ) (own : Bool) (m : Result (List (List ℕ)) Refusal) → flag list name f ≡ None
    → has_flag f (known ((m >>= (λ under. Ok (resolved list under name))) >>= (λ found. Ok (unless_bare own found)))) ≡ false
known_lacks list name f own (Err refusal) none = refl
known_lacks list name f own (Ok under) none = unless f own (resolved list under name) (resolved_lacks list under name f none)

pub lacks : (list : List EntryLine) (task name f : List ℕ) → flag list name f ≡ None → has_flag f (known ((seen_by task (find_in list)).at name)) ≡ false
lacks list task name f none = known_lacks list name f (bytes_eq name task) (active list) none
