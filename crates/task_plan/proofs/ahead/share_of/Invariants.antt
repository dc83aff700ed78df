use Rattle.std.specs.Ordering.{nat_cmp}
use Rattle.std.specs.BTreeMap.{get}
use Rattle.task_plan.specs.Ahead.{AreAhead}
use Rattle.task_plan.specs.Meant.{AreKept}
use Rattle.task_plan.proofs.ahead.share_of.Given as goal

-- what is kept and what is made are of these recipes
abbrev pub invariant-loop-number : goal.invariant-loop-number
invariant-loop-number l = record {
  kept : AreKept l.set.stores (get nat_cmp l.kept);
  made : AreAhead l.set l.nodes (get nat_cmp l.share);
}
