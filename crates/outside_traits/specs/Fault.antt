-- Counts of faults. Each device has one: it never falls, and stands still at the last value of a `u64`.
use Rattle.std.specs.Prelude.{◌≡◌, ◌≤◌, ◌+◌, ◌-◌, ◌^◌, min, ℕ, Bool, true, false, Result, Ok, Err}
use Rattle.std.specs.Bool.{OnTrue, OnFalse}
use Rattle.outside_traits.specs.declared.fault.ReadFault.{ReadFault}
use Rattle.outside_traits.specs.declared.fault.ReadFault.TheVariants as read
use Rattle.outside_traits.specs.declared.fault.DiskFault.{DiskFault}
use Rattle.outside_traits.specs.declared.fault.DiskFault.TheVariants as disk
use Rattle.outside_traits.specs.declared.fault.BenchFault.{BenchFault}
use Rattle.outside_traits.specs.declared.fault.BenchFault.TheVariants as bench
use Rattle.outside_traits.specs.declared.fault.SinkFault.{SinkFault}

-- The count rose. One that stands at its last value counts as risen.
abbrev pub Rose : ℕ → ℕ → Type 0
Rose before now = min (before + 1) (2 ^ 64 - 1) ≤ now

-- What a call does to a count: it rises where the call answers that the device failed, and else it stays.
pub record Counts (before now : ℕ) (failed : Bool) : Type 0 where
  pub later : before ≤ now
  pub rose : OnTrue failed (Rose before now)
  pub stayed : OnFalse failed (now ≡ before)

-- whether the answer is that the layers failed
abbrev pub read_failed : {T : Type 0} → Result T ReadFault → Bool
read_failed (Ok x) = false
read_failed (Err read.Failed) = true
read_failed (Err read.TooLong) = false
read_failed (Err read.Memory) = false

-- whether the answer is that the disk failed
abbrev pub disk_failed : {T : Type 0} → Result T DiskFault → Bool
disk_failed (Ok x) = false
disk_failed (Err disk.Failed) = true
disk_failed (Err disk.Memory) = false

-- whether the answer is that the bench failed
abbrev pub bench_failed : {T : Type 0} → Result T BenchFault → Bool
bench_failed (Ok x) = false
bench_failed (Err bench.Failed) = true
bench_failed (Err bench.Memory) = false

-- whether the answer is that the sink failed, which is its only refusal
abbrev pub sink_failed : {T : Type 0} → Result T SinkFault → Bool
sink_failed (Ok x) = false
sink_failed (Err e) = true
