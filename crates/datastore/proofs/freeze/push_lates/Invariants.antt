use Rattle.std.proofs.Common.{◌≡◌, drop}
use Rattle.meta_model.specs.Frozen as frozen
use Rattle.meta_model.specs.Passing.{behind, behind}
use Rattle.datastore.proofs.freeze.push_lates.Given as goal

abbrev pub invariant-loop-late : goal.invariant-loop-late
invariant-loop-late l = behind l.fn.lines.items (frozen.told_lates l.store l.target l.lates) ≡ behind l.lines.items (frozen.told_lates l.store l.target (drop l.late-index l.lates))
