-- Why a store isn't brought to the present format.
use Rattle.std.specs.Prelude.{◌≡◌, ◌≢◌, Bool, true, false, Result, Ok, Err}
use Rattle.outside_traits.specs.declared.fault.DiskFault.{DiskFault}
use Rattle.outside_traits.specs.declared.fault.DiskFault.TheVariants as disk
use Rattle.record_move.specs.declared.fault.MoveFault.{MoveFault}
use Rattle.record_move.specs.declared.fault.MoveFault.TheVariants as move
use Rattle.sha2.specs.Sha256.{sha256}
use Rattle.store_model.specs.Spelling.{text_name}
use Rattle.store_upgrade.specs.declared.fault.UpgradeFault.{UpgradeFault}
use Rattle.store_upgrade.specs.declared.fault.UpgradeFault.TheVariants as fault

abbrev pub is_disk_fault : DiskFault → Bool
is_disk_fault disk.Failed = true
is_disk_fault disk.Memory = false

abbrev pub is_the_disks : UpgradeFault → Bool
is_the_disks (fault.Disk f) = is_disk_fault f
is_the_disks (fault.Move f) = false

-- Why records aren't moved: two different signatures, or two different keys, have one digest, which is the name. Want of memory is free.
abbrev pub IsDigestClash : MoveFault → Type 0
IsDigestClash (move.Collision name held given) = (held ≢ given) × (name ≡ text_name held) × (name ≡ text_name given)
IsDigestClash (move.KeyCollision name held given) = (held ≢ given) × (name.bytes ≡ sha256 held) × (name.bytes ≡ sha256 given)
IsDigestClash move.Memory = Unit {0}

abbrev pub IsCauseOf : UpgradeFault → Type 0
IsCauseOf (fault.Disk f) = Unit {0}
IsCauseOf (fault.Move f) = IsDigestClash f

-- whether the answer is that the disk failed
abbrev pub upgrade_failed : {T : Type 0} → Result T UpgradeFault → Bool
upgrade_failed (Ok x) = false
upgrade_failed (Err f) = is_the_disks f
