-- What a fault of loading says of what was meant.
use Rattle.std.specs.Prelude.{◌≡◌, Bool, true, false, [], Option, Some, None, Result, Ok, Err, MatchOption, ⊤}
use Rattle.std.specs.Option.{option_map}
use Rattle.datastore.specs.Faults.{data_refusal}
use Rattle.load_model.specs.LoadRefusal.{LoadCause, missing_required, missing_class, include_depth, syntax, no_value, file_bytes, LoadRefusal, refused_at, Place as Where}
use Rattle.class_inherit.specs.declared.fault.Place.{Place}
use Rattle.class_inherit.specs.declared.fault.LoadFault.{LoadFault}
use Rattle.class_inherit.specs.declared.fault.LoadKind.{LoadKind}
use Rattle.class_inherit.specs.declared.fault.LoadKind.TheVariants.{MissingRequired, MissingClass, IncludeDepth, Read, Parse, Data, FileBytes, Memory}

-- a place of the input
abbrev pub where_is : Place → Where
where_is place = record { file = place.file.now; line = place.line }

-- The cause that a kind of fault is. A failure of the layers and want of memory are none.
abbrev pub cause_of : LoadKind → Option LoadCause
cause_of (MissingRequired path) = Some (missing_required path)
cause_of (MissingClass name) = Some (missing_class name)
cause_of IncludeDepth = Some include_depth
cause_of Read = None
cause_of (Parse wrong) = Some (syntax wrong)
cause_of (Data fault) = option_map no_value (data_refusal fault)
cause_of FileBytes = Some file_bytes
cause_of Memory = None

-- The layers failed, or memory ran out: nothing is said of what was meant.
abbrev pub IsFree : LoadKind → Type 0
IsFree (MissingRequired path) = ⊥
IsFree (MissingClass name) = ⊥
IsFree IncludeDepth = ⊥
IsFree Read = ⊤
IsFree (Parse wrong) = ⊥
IsFree (Data fault) = ⊥
IsFree FileBytes = ⊥
IsFree Memory = ⊤

-- the place that a fault names
abbrev pub place_of : LoadFault → Where
place_of fault = record { file = fault.file; line = fault.line }

-- The layers failed, or memory ran out; no place is named.
pub record IsUntold (fault : LoadFault) : Type 0 where
  pub free : IsFree fault.kind
  pub file : fault.file ≡ []
  pub line : fault.line ≡ 0

-- The fault is the refusal that was meant, with its place. A failure of the layers and want of memory name no place.
pub record IsLoadFault {A : Type 0} (fault : LoadFault) (meant : Result A LoadRefusal) : Type 0 where
  pub told : MatchOption (cause_of fault.kind) (IsFree fault.kind × (fault.file ≡ []) × (fault.line ≡ 0)) (λ cause. meant ≡ Err (refused_at (place_of fault) cause))

-- The fault says this cause of this place, unless memory ran out.
pub record IsSaid (fault : LoadFault) (place : Where) (cause : Option LoadCause) : Type 0 where
  pub said : MatchOption (cause_of fault.kind) (IsFree fault.kind × (fault.file ≡ []) × (fault.line ≡ 0)) (λ c. (cause ≡ Some c) × (place_of fault ≡ place))

-- Memory ran out.
pub record IsOutOfMemory (fault : LoadFault) : Type 0 where
  pub kind : fault.kind ≡ Memory
  pub file : fault.file ≡ []
  pub line : fault.line ≡ 0

-- whether a kind says that the layers failed
abbrev pub is_read : LoadKind → Bool
is_read (MissingRequired path) = false
is_read (MissingClass name) = false
is_read IncludeDepth = false
is_read Read = true
is_read (Parse wrong) = false
is_read (Data fault) = false
is_read FileBytes = false
is_read Memory = false

-- whether the answer is that the layers failed
abbrev pub load_failed : {T : Type 0} → Result T LoadFault → Bool
load_failed (Ok x) = false
load_failed (Err fault) = is_read fault.kind

-- the refusal that a fault is; none where the layers failed or memory ran out
abbrev pub load_refusal : LoadFault → Option LoadRefusal
load_refusal fault = option_map (refused_at (place_of fault)) (cause_of fault.kind)

-- whether a kind is want of memory
abbrev pub is_memory : LoadKind → Bool
is_memory (MissingRequired path) = false
is_memory (MissingClass name) = false
is_memory IncludeDepth = false
is_memory Read = false
is_memory (Parse wrong) = false
is_memory (Data fault) = false
is_memory FileBytes = false
is_memory Memory = true
