-- What is worked out on the way to what a run would do.
use Rattle.std.specs.Prelude.{◌≡◌, ◌⊎◌, ℕ, List, Result, Ok, Err}
use Rattle.meta_model.specs.declared.event.Status.{Status}
use Rattle.meta_model.specs.declared.event.Status.TheVariants as status
use Rattle.answer_model.specs.declared.asked.RunRequest.{RunRequest}
use Rattle.answer_model.specs.Asked.{AskRun}
use Rattle.build_store.specs.declared.fault.StoreFault.{StoreFault}
use Rattle.build_resume.specs.Ends.{status_of}

-- a text is printed, or a front of it, or the line of a fault
abbrev pub IsToldAs : Result (List ℕ) StoreFault → Status → Type 0
IsToldAs (Ok text) s = (s ≡ status.Ok) ⊎ (s ≡ status.WriteFault)
IsToldAs (Err fault) s = (s ≡ status_of fault) ⊎ (s ≡ status.OutOfMemory)

-- the statuses of what a run of a plan would do
abbrev pub IsWhyStatus : Status → Type 0
IsWhyStatus status.Ok = Unit {0}
IsWhyStatus status.WriteFault = Unit {0}
IsWhyStatus status.DiskFault = Unit {0}
IsWhyStatus status.OutOfMemory = Unit {0}
IsWhyStatus (status.Collision name held given) = Unit {0}
IsWhyStatus _ = ⊥

-- the words ask for no run, or memory was wanting
abbrev pub IsNoRun : List (List ℕ) → Status → Type 0
IsNoRun words s = (s ≡ status.OutOfMemory) ⊎ ((s ≡ status.Usage) × ((request : RunRequest) → AskRun words request → ⊥))
