use Rattle.std.specs.BTreeMap.{get_by_text}
use Rattle.outside_mem.specs.Layers.{AreFrom}
use Rattle.outside_mem.proofs.layers.first_files.Given as goal

abbrev pub invariant-loop-path : goal.invariant-loop-path
invariant-loop-path l = AreFrom l.yielded (get_by_text l.held)
