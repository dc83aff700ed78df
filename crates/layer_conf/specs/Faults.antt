-- What a fault says of the configuration that was meant.
use Rattle.std.specs.Prelude.{◌≡◌, ◌⊎◌, Bool, true, false, Option, Some, None, Result, Ok, Err}
use Rattle.std.specs.Option.{option_map}
use Rattle.load_model.specs.Layers.{LayerRefusal, no_such_layer, bad_pattern, load, no_list}
use Rattle.class_inherit.specs.Faults.{is_read, load_refusal}
use Rattle.meta_model.specs.Passing.{IsRefused}
use Rattle.datastore.specs.Faults.{data_refusal}
use Rattle.layer_conf.specs.declared.fault.LayerFault.{LayerFault}
use Rattle.layer_conf.specs.declared.fault.LayerFault.TheVariants.{NoSuchLayer, BadPattern, Load, Data, List, Memory}

-- the refusal that a fault is; none where the layers failed or memory ran out
abbrev pub layer_refusal : LayerFault → Option LayerRefusal
layer_refusal (NoSuchLayer path) = Some (no_such_layer path)
layer_refusal (BadPattern word) = Some (bad_pattern word)
layer_refusal (Load fault) = option_map load (load_refusal fault)
layer_refusal (Data fault) = option_map no_list (data_refusal fault)
layer_refusal List = None
layer_refusal Memory = None

-- The fault is the refusal that was meant. A failure of the layers and want of memory claim nothing.
pub record IsLayerFault {A : Type 0} (fault : LayerFault) (meant : Result A LayerRefusal) : Type 0 where
  pub told : IsRefused (layer_refusal fault) meant

-- the fault is this refusal, unless memory ran out
abbrev pub IsOrMemory : LayerFault → LayerRefusal → Type 0
IsOrMemory fault refusal = (layer_refusal fault ≡ Some refusal) ⊎ (layer_refusal fault ≡ None)

-- whether a fault says that the layers failed
abbrev pub is_failure : LayerFault → Bool
is_failure (NoSuchLayer path) = false
is_failure (BadPattern word) = false
is_failure (Load fault) = is_read fault.kind
is_failure (Data fault) = false
is_failure List = true
is_failure Memory = false

-- whether the answer is that the layers failed
abbrev pub layers_failed : {T : Type 0} → Result T LayerFault → Bool
layers_failed (Ok x) = false
layers_failed (Err fault) = is_failure fault
