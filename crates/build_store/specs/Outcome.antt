-- What opening a store answers.
use Rattle.std.specs.Prelude.{Bool, false, Result, Ok, Err}
use Rattle.build_store.specs.declared.refused.OpenRefused.{OpenRefused}
use Rattle.build_store.specs.Faults.{is_disk_fault}
use Rattle.build_store.specs.View.{View}

-- the disk, whatever was answered
abbrev pub disk_of : {D : Type 0} → Result (View D) (OpenRefused D) → D
disk_of (Ok store) = store.disk
disk_of (Err refused) = refused.disk

-- whether the answer is that the disk failed
abbrev pub open_failed : {D : Type 0} → Result (View D) (OpenRefused D) → Bool
open_failed (Ok store) = false
open_failed (Err refused) = is_disk_fault refused.fault
