use Rattle.std.proofs.Common.{rules}
use Rattle.outside_traits.proofs.Readings.{same_entries}
use Rattle.outside_mem.proofs.Damages.{fresh_sound}
use Rattle.outside_mem.proofs.Trees.{tree_content}
use Rattle.outside_mem.proofs.mem_disk.MemDisk.new.Goals as goal

pub invariant_of-result : goal.invariant_of-result
invariant_of-result c = record { sound = fresh_sound c.in_ok-from_entries.field-0 c.new.result.items (search rules) (tree_content c.in_ok-from_entries.field-0 c.in_ok-from_entries.ensures.tree) }

pub returns-clause-held : goal.returns-clause-held
returns-clause-held c = same_entries c.args.held.items c.in_ok-from_entries.field-0 c.in_ok-from_entries.ensures.entries c.in_ok-from_entries.ensures.tree
