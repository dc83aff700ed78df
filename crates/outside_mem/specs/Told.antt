-- What the devices in memory tell, by their fields.
use Rattle.std.specs.Prelude.{◌+◌, ◌*◌, ◌^◌, ◌||◌, nat_lt, ℕ, Bool, List, Option, length}
use Rattle.std.specs.BTreeMap.{get_by_text}
use Rattle.outside_traits.specs.Bench.{Entries, Gives, Workplace}
use Rattle.outside_traits.specs.Story.{Story}
use Rattle.outside_mem.specs.declared.plan.FaultPlan.{FaultPlan}
use Rattle.outside_mem.specs.declared.faulty_disk.FaultyDisk.{FaultyDisk}
use Rattle.outside_mem.specs.declared.layers.FixedLayers.{FixedLayers}
use Rattle.outside_mem.specs.declared.layers.MemLayers.{MemLayers}
use Rattle.outside_mem.specs.declared.mem_bench.MemBench.{MemBench}
use Rattle.outside_mem.specs.declared.mem_disk.MemDisk.{MemDisk}
use Rattle.outside_mem.specs.declared.script_table.ScriptTable.{ScriptTable}
use Rattle.outside_mem.specs.declared.sink.MemSink.{MemSink}
use Rattle.outside_mem.specs.Kept.{story_by}
use Rattle.outside_mem.specs.Plan.{next_fails}
use Rattle.outside_mem.specs.Scripts.{gives_by}

-- the bytes of the file that fixed layers hold at a path
abbrev pub fixed_at : FixedLayers → List ℕ → Option (List ℕ)
fixed_at layers = get_by_text layers.files

-- the bytes of the file that the layers hold at a path
abbrev pub file_at : MemLayers → List ℕ → Option (List ℕ)
file_at layers = fixed_at layers.held

-- which calls of the layers fail
abbrev pub layers_plan : MemLayers → FaultPlan
layers_plan layers = layers.plan

-- how often the layers failed
abbrev pub layers_faults : MemLayers → ℕ
layers_faults layers = layers.faults

-- the tree that a disk holds
abbrev pub tree_of : MemDisk → Entries
tree_of disk = disk.tree

-- what is told of a disk
abbrev pub story_of : MemDisk → Story
story_of disk = story_by disk.tree disk.calls.items

-- the disk of which calls fail
abbrev pub disk_of : FaultyDisk → MemDisk
disk_of disk = disk.disk

-- how many calls are left to be counted down
abbrev pub left_of : FaultyDisk → ℕ
left_of disk = disk.left

-- A call fails where so many are left. At 1 that is just the call with the number that was left first; at 0 it is each call behind those.
abbrev pub due_at : FaultyDisk → ℕ
due_at disk = disk.due

-- how often a disk of which calls fail failed
abbrev pub disk_faults : FaultyDisk → ℕ
disk_faults disk = disk.faults

-- what the scripts of a table make of trees
abbrev pub table_gives : ScriptTable → Gives
table_gives table = gives_by table.rules.items

-- what is laid, what the last run gave, and all runs so far
abbrev pub table_place : ScriptTable → Workplace
table_place table = table.place

-- which calls of a table fail
abbrev pub table_plan : ScriptTable → FaultPlan
table_plan table = table.plan

-- which waits of a table answer that the system hasn't written
abbrev pub table_waits : ScriptTable → FaultPlan
table_waits table = table.waits

-- how often a table failed
abbrev pub table_faults : ScriptTable → ℕ
table_faults table = table.faults

-- all bytes that a sink took so far
abbrev pub text_of : MemSink → List ℕ
text_of sink = sink.written.items

-- which writes fail by the sink's plan
abbrev pub sink_plan : MemSink → FaultPlan
sink_plan sink = sink.plan

-- how often a write failed
abbrev pub sink_faults : MemSink → ℕ
sink_faults sink = sink.faults

-- the room of a sink: 4 MiB
abbrev pub room : ℕ
room = 4 * 2 ^ 20

-- whether a write of a piece fails: the plan says so, or the piece doesn't fit into the room that is left
abbrev pub write_fails : MemSink → List ℕ → Bool
write_fails sink piece = next_fails (sink_plan sink) || nat_lt room (length (text_of sink) + length piece)

-- what is laid on a bench that gives digests, what its last run gave, and all runs so far
abbrev pub mem_place : MemBench → Workplace
mem_place bench = bench.place
