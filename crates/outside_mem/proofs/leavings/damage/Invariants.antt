use Rattle.tree_model.specs.Tree.{entry_at}
use Rattle.outside_mem.proofs.Damages.{FirstDamaged}
use Rattle.outside_mem.proofs.leavings.damage.Given as goal

abbrev pub invariant-loop-number : goal.invariant-loop-number
invariant-loop-number l = FirstDamaged l.pick l.paths l.number (entry_at l.fn.tree) (entry_at l.tree)
