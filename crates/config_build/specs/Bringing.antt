-- How a run ends to whose store the records of a mirror can't come.
use Rattle.std.specs.Prelude.{◌≡◌, ◌⊎◌, true}
use Rattle.meta_model.specs.declared.event.Status.{Status}
use Rattle.meta_model.specs.declared.event.Status.TheVariants as status
use Rattle.sstate_mirror.specs.declared.fault.BringFault.{BringFault}
use Rattle.sstate_mirror.specs.declared.fault.BringFault.TheVariants as bring
use Rattle.build_resume.specs.Build.{is_collision}

-- What a status says of the fault: two signatures are told apart by their short texts, or by their keys, for which memory may be wanting.
abbrev pub IsStatusOf : BringFault → Status → Type 0
IsStatusOf bring.Mirror s = s ≡ status.MirrorFault
IsStatusOf bring.Disk s = s ≡ status.DiskFault
IsStatusOf (bring.Collision name held given) s = (is_collision s ≡ true) ⊎ (s ≡ status.OutOfMemory)
IsStatusOf (bring.KeyCollision name held given) s = s ≡ status.Collision name held given
IsStatusOf (bring.Differs pn task held given) s = s ≡ status.Unsteady pn task held given
IsStatusOf bring.Memory s = s ≡ status.OutOfMemory
