-- The status of a run, by how it ends.
use Rattle.std.specs.Prelude.{◌≡◌, ◌⊎◌, Bool, true, false, Option, Some, None, if◌then◌else◌}
use Rattle.meta_model.specs.declared.event.Status.{Status}
use Rattle.meta_model.specs.declared.event.Status.TheVariants as status
use Rattle.run_model.specs.Ends.{is_plain}
use Rattle.build_store.specs.declared.fault.StoreFault.{StoreFault}
use Rattle.build_store.specs.declared.fault.StoreFault.TheVariants as fault
use Rattle.run_queue.specs.declared.fault.RunFault.{RunFault}
use Rattle.run_queue.specs.declared.fault.RunFault.TheVariants as kept
use Rattle.run_workers.specs.declared.worker.Halt.{Halt}
use Rattle.run_workers.specs.declared.worker.Halt.TheVariants as halt

-- Why a run ends, by why the calling thread halted: in its place come a bench that failed, and then want of memory, if that broke a task.
abbrev pub halt_by : Halt → Bool → Bool → Halt
halt_by h true memory = halt.Bench
halt_by h false true = halt.Memory
halt_by h false false = h

-- a fault of the store, as a status
abbrev pub status_of : StoreFault → Status
status_of fault.Disk = status.DiskFault
status_of (fault.Collision name held given) = status.Collision name held given
status_of (fault.Unsteady pn task held given) = status.Unsteady pn task held given
status_of fault.Memory = status.OutOfMemory

-- how a run ends in which no fault was met
abbrev pub status_at : Halt → Bool → Status
status_at halt.Finished failed = if failed then status.TaskFailed else status.Ok
status_at halt.Stopped failed = if failed then status.TaskFailed else status.Ok
status_at halt.Memory failed = status.OutOfMemory
status_at halt.Bench failed = status.BenchFault

-- The status of a run, by the first fault that it met, by why it halted, and by whether a task failed.
abbrev pub status_by : Option RunFault → Halt → Bool → Status
status_by (Some (kept.Store f)) h failed = status_of f
status_by (Some kept.Write) h failed = status.WriteFault
status_by None h failed = status_at h failed

-- How a run ends whose first cause is this one: so it does; or memory was wanting for the last line, or for the list of the tasks that
-- failed; or nothing failed outside before, and the sink did now.
abbrev pub EndsBy : Type 0 → Status → Status → Type 0
EndsBy sink cause s = (s ≡ cause) ⊎ ((s ≡ status.OutOfMemory) ⊎ ((s ≡ status.WriteFault) × (is_plain cause ≡ true) × sink))
