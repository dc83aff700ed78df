-- Kinds of ends of a run: what broke tasks off, and what a status says of faults.
use Rattle.std.specs.Prelude.{List, Bool, true, false}
use Rattle.std.specs.List.{list_any}
use Rattle.meta_model.specs.declared.event.Cut.TheVariants as cut
use Rattle.meta_model.specs.declared.event.Event.{Event}
use Rattle.meta_model.specs.declared.event.Event.TheVariants as events
use Rattle.meta_model.specs.declared.event.Logged.{Logged}
use Rattle.meta_model.specs.declared.event.Status.{Status}
use Rattle.meta_model.specs.declared.event.Status.TheVariants as status
use Rattle.run_model.specs.Seats.{is_bench_break}

-- the event is that a task broke off since memory was wanting
abbrev pub is_memory_break : Event → Bool
is_memory_break (events.Broke t cut.Memory) = true
is_memory_break _ = false

-- a task broke off in a tale since its bench failed, or since memory was wanting
abbrev pub bench_broke : List Logged → Bool
bench_broke tale = list_any (λ l. is_bench_break l.event) tale

abbrev pub memory_broke : List Logged → Bool
memory_broke tale = list_any (λ l. is_memory_break l.event) tale

-- whether the status says that nothing failed outside
abbrev pub is_plain : Status → Bool
is_plain status.Ok = true
is_plain status.TaskFailed = true
is_plain _ = false

-- whether the status comes only where no fault was kept
abbrev pub is_faultless : Status → Bool
is_faultless status.Ok = true
is_faultless status.TaskFailed = true
is_faultless status.BenchFault = true
is_faultless _ = false

-- whether the status is that of a fault that was kept: of the store, of the sink, or want of memory
abbrev pub is_of_fault : Status → Bool
is_of_fault status.DiskFault = true
is_of_fault status.WriteFault = true
is_of_fault (status.Collision name held given) = true
is_of_fault (status.Unsteady pn task held given) = true
is_of_fault status.OutOfMemory = true
is_of_fault _ = false
