-- What a fault says of the recipes that were meant.
use Rattle.std.specs.Prelude.{◌≡◌, ◌⊎◌, Bool, false, Option, Some, None, Result, Ok, Err}
use Rattle.std.specs.Option.{option_map}
use Rattle.load_model.specs.Recipes.{SetRefusal, bad_name, dangling_append, load, too_many, no_value}
use Rattle.class_inherit.specs.Faults.{is_read, load_refusal}
use Rattle.meta_model.specs.Passing.{IsRefused}
use Rattle.datastore.specs.Faults.{data_refusal}
use Rattle.recipe_set.specs.declared.fault.SetFault.{SetFault}
use Rattle.recipe_set.specs.declared.fault.SetFault.TheVariants.{BadName, DanglingAppend, Load, Recipes, Data, Memory}

-- Memory ran out.
abbrev pub IsWantOfMemory : SetFault → Type 0
IsWantOfMemory fault = fault ≡ Memory

-- the refusal that a fault is; none where the layers failed or memory ran out
abbrev pub set_refusal : SetFault → Option SetRefusal
set_refusal (BadName file) = Some (bad_name file)
set_refusal (DanglingAppend file) = Some (dangling_append file)
set_refusal (Load fault) = option_map load (load_refusal fault)
set_refusal Recipes = Some too_many
set_refusal (Data file fault) = option_map (no_value file) (data_refusal fault)
set_refusal Memory = None

-- The fault is the refusal that was meant. A failure of the layers and want of memory claim nothing.
pub record IsSetFault {A : Type 0} (fault : SetFault) (meant : Result A SetRefusal) : Type 0 where
  pub told : IsRefused (set_refusal fault) meant

-- the fault is this refusal, unless memory ran out
abbrev pub IsTold : SetFault → Option SetRefusal → Type 0
IsTold fault refusal = (set_refusal fault ≡ refusal) ⊎ (set_refusal fault ≡ None)

-- whether a fault says that the layers failed
abbrev pub is_failure : SetFault → Bool
is_failure (BadName file) = false
is_failure (DanglingAppend file) = false
is_failure (Load fault) = is_read fault.kind
is_failure Recipes = false
is_failure (Data file fault) = false
is_failure Memory = false

-- whether the answer is that the layers failed
abbrev pub set_failed : {T : Type 0} → Result T SetFault → Bool
set_failed (Ok x) = false
set_failed (Err fault) = is_failure fault
