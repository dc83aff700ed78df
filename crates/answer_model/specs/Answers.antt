-- What is answered where there is no run.
use Rattle.std.specs.Prelude.{Bool, true, false, ◌≡◌, ◌⊎◌, ℕ, List, ◌++◌, Result, Err, IsOk}
use Rattle.outside_traits.specs.Fault.{Rose}
use Rattle.meta_model.specs.declared.event.Status.{Status}
use Rattle.meta_model.specs.declared.event.Status.TheVariants as status
use Rattle.run_model.specs.Written.{WritesFront}

-- the statuses of a mode that is refused: a fault of metadata, a limit, a failure of the layers, want of memory
abbrev pub is_refusal : Status → Bool
is_refusal (status.Metadata file line kind detail) = true
is_refusal (status.Limit kind) = true
is_refusal status.ReadFault = true
is_refusal status.OutOfMemory = true
is_refusal _ = false

-- the status is that of the refusal that was meant, unless memory ran out
abbrev pub IsRefusal : {A : Type 0} → Result A Status → Status → Type 0
IsRefusal meant s = (meant ≡ Err s) ⊎ (s ≡ status.OutOfMemory)

-- the statuses of a reading
abbrev pub is_read_status : Status → Bool
is_read_status status.Ok = true
is_read_status status.WriteFault = true
is_read_status s = is_refusal s

-- The status of a reading fits what was meant, a text or the status of a refusal: it is `Ok` or, where the sink failed,
-- `WriteFault` only where there is a text, and a fault of metadata or a limit only where that is the refusal. It may say
-- besides that the layers failed or that memory was wanting, and nothing else.
abbrev pub HasRead : Status → Result (List ℕ) Status → Type 0
HasRead status.Ok meant = IsOk meant
HasRead status.WriteFault meant = IsOk meant
HasRead (status.Metadata file line kind detail) meant = meant ≡ Err (status.Metadata file line kind detail)
HasRead (status.Limit kind) meant = meant ≡ Err (status.Limit kind)
HasRead status.ReadFault meant = Unit {0}
HasRead status.OutOfMemory meant = Unit {0}
HasRead _ meant = ⊥

-- A text was written behind the base, or, where the sink failed, a front of it. The numbers are the counts of the sink's faults,
-- before and after.
abbrev pub Says : List ℕ → List ℕ → List ℕ → ℕ → ℕ → Type 0
Says text base now before after = (now ≡ base ++ text) ⊎ (Rose before after × WritesFront base now text)
