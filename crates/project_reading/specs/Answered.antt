-- What is answered where a mode is refused.
use Rattle.std.specs.Prelude.{◌≡◌, ◌⊎◌, Bool, true, false, Result, Ok, Err}
use Rattle.meta_model.specs.declared.event.Status.{Status}
use Rattle.meta_model.specs.declared.event.Status.TheVariants as status

-- The status is that of the refusal that was meant, unless the layers failed or memory ran out.
abbrev pub IsRefusedAs : {A : Type 0} → Status → Result A Status → Type 0
IsRefusedAs answered meant = (answered ≡ status.OutOfMemory) ⊎ ((answered ≡ status.ReadFault) ⊎ (meant ≡ Err answered))

-- whether a status says that the layers failed
abbrev pub is_failed_read : Status → Bool
is_failed_read status.ReadFault = true
is_failed_read _ = false

-- whether the answer is that the layers failed
abbrev pub mode_failed : {T : Type 0} → Result T Status → Bool
mode_failed (Ok x) = false
mode_failed (Err status) = is_failed_read status
