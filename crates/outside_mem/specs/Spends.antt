-- Which calls of a failing disk fail, by their numbers. (Own rule.)
use Rattle.std.specs.Prelude.{◌≡◌, ◌-◌, nat_eq, Result, IsErrOf}
use Rattle.outside_traits.specs.declared.fault.DiskFault.{DiskFault}
use Rattle.outside_traits.specs.declared.fault.DiskFault.TheVariants.{Memory}
use Rattle.outside_traits.specs.Fault.{disk_failed}
use Rattle.outside_mem.specs.declared.faulty_disk.FaultyDisk.{FaultyDisk}
use Rattle.outside_mem.specs.Told.{due_at, left_of}

-- One call was made, and there is one less to be counted down. It failed just where it was to fail. A call that is refused for want of
-- memory has spent its number too.
pub record Spends (old new : FaultyDisk) {T : Type 0} (result : Result T DiskFault) : Type 0 where
  pub fewer : left_of new ≡ left_of old - 1
  pub kept : due_at new ≡ due_at old
  pub just_that : (IsErrOf result Memory → ⊥) → disk_failed result ≡ nat_eq (left_of old) (due_at old)
