-- Why records aren't brought.
use Rattle.std.specs.Prelude.{◌≡◌, ◌≢◌, Bool, true, false, List, Contains, Result, Ok, Err}
use Rattle.sha2.specs.Sha256.{sha256}
use Rattle.outside_traits.specs.declared.fault.DiskFault.{DiskFault}
use Rattle.outside_traits.specs.declared.fault.DiskFault.TheVariants as disk
use Rattle.store_model.specs.declared.signature.EquivRow.{EquivRow}
use Rattle.store_model.specs.Spelling.{text_name}
use Rattle.record_move.specs.declared.fault.MoveFault.{MoveFault}
use Rattle.record_move.specs.declared.fault.MoveFault.TheVariants as move
use Rattle.sstate_mirror.specs.declared.fault.BringFault.{BringFault}
use Rattle.sstate_mirror.specs.declared.fault.BringFault.TheVariants as bring

-- ---- what is handed on

-- a fault of the own disk
abbrev pub of_disk : DiskFault → BringFault
of_disk disk.Failed = bring.Disk
of_disk disk.Memory = bring.Memory

-- a fault of the mirror
abbrev pub of_mirror : DiskFault → BringFault
of_mirror disk.Failed = bring.Mirror
of_mirror disk.Memory = bring.Memory

-- records that can't be translated
abbrev pub of_move : MoveFault → BringFault
of_move (move.Collision name held given) = bring.Collision name held given
of_move (move.KeyCollision name held given) = bring.KeyCollision name held given
of_move move.Memory = bring.Memory

-- ---- whose fault it is

abbrev pub is_the_disks : BringFault → Bool
is_the_disks bring.Mirror = false
is_the_disks bring.Disk = true
is_the_disks (bring.Collision name held given) = false
is_the_disks (bring.KeyCollision name held given) = false
is_the_disks (bring.Differs pn task held given) = false
is_the_disks bring.Memory = false

abbrev pub is_the_mirrors : BringFault → Bool
is_the_mirrors bring.Mirror = true
is_the_mirrors bring.Disk = false
is_the_mirrors (bring.Collision name held given) = false
is_the_mirrors (bring.KeyCollision name held given) = false
is_the_mirrors (bring.Differs pn task held given) = false
is_the_mirrors bring.Memory = false

-- whether the answer is that the own disk failed
abbrev pub disk_refused : {T : Type 0} → Result T BringFault → Bool
disk_refused (Ok x) = false
disk_refused (Err f) = is_the_disks f

-- whether the answer is that the mirror failed
abbrev pub mirror_refused : {T : Type 0} → Result T BringFault → Bool
mirror_refused (Ok x) = false
mirror_refused (Err f) = is_the_mirrors f

-- ---- causes

-- Where both stores are valid with books of which no contents clash: two different signatures, or two different keys, have one digest, which is the name;
-- records never differ in their manifests alone. Want of memory is free.
abbrev pub IsCauseOf : BringFault → Type 0
IsCauseOf bring.Mirror = Unit {0}
IsCauseOf bring.Disk = Unit {0}
IsCauseOf (bring.Collision name held given) = (held ≢ given) × (name ≡ text_name held) × (name ≡ text_name given)
IsCauseOf (bring.KeyCollision name held given) = (held ≢ given) × (name.bytes ≡ sha256 held) × (name.bytes ≡ sha256 given)
IsCauseOf (bring.Differs pn task held given) = ⊥
IsCauseOf bring.Memory = Unit {0}

-- Whatever the stores hold: manifests that differ, the second of which is that of one of the mirror's believed records, which have these rows, with its PN and task.
abbrev pub IsDifference : List EquivRow → BringFault → Type 0
IsDifference theirs bring.Mirror = Unit {0}
IsDifference theirs bring.Disk = Unit {0}
IsDifference theirs (bring.Collision name held given) = Unit {0}
IsDifference theirs (bring.KeyCollision name held given) = Unit {0}
IsDifference theirs (bring.Differs pn task held given) = (held ≢ given) × ((row : EquivRow) × Contains theirs row × (row.pn ≡ pn) × (row.task ≡ task) × (row.manifest ≡ given))
IsDifference theirs bring.Memory = Unit {0}
