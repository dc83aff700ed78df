-- The numbers of the statuses. (Own rule.)
use Rattle.std.specs.Prelude.{ℕ}
use Rattle.meta_model.specs.declared.event.Status.{Status}
use Rattle.meta_model.specs.declared.event.Status.TheVariants.{Ok, TaskFailed, Usage, Metadata, DiskFault, BenchFault, ReadFault, WriteFault, Collision, Unsteady, Limit, OutOfMemory, MirrorFault}

-- the exit status of the program
abbrev pub exit_status : Status → ℕ
exit_status Ok = 0
exit_status TaskFailed = 1
exit_status Usage = 2
exit_status (Metadata file line kind detail) = 3
exit_status DiskFault = 4
exit_status BenchFault = 5
exit_status ReadFault = 6
exit_status WriteFault = 7
exit_status (Collision name held given) = 8
exit_status (Unsteady pn task held given) = 9
exit_status (Limit kind) = 10
exit_status OutOfMemory = 11
exit_status MirrorFault = 12
