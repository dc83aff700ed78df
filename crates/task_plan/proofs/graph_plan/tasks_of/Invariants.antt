use Rattle.std.proofs.Common.{◌≡◌, drop, All}
use Rattle.std.specs.Ordering.{nat_cmp}
use Rattle.std.specs.BTreeMap.{get}
use Rattle.meta_model.specs.Passing.{behind}
use Rattle.plan_model.specs.Plans.{no_sums}
use Rattle.task_plan.specs.Ahead.{AreAhead}
use Rattle.task_plan.specs.Meant.{sums_meant, AreKept}
use Rattle.task_plan.specs.Steps.{forced_tasks}
use Rattle.task_plan.proofs.graph_plan.tasks_of.Given as goal

-- the tasks of the nodes so far are made
abbrev pub invariant-loop-number : goal.invariant-loop-number
invariant-loop-number g l = record {
  same : g.L.Layers.files l.layers ≡ g.L.Layers.files l.fn.layers;
  faults : g.L.Layers.faults l.layers ≡ g.L.Layers.faults l.fn.layers;
  kept : AreKept l.set.stores (get nat_cmp l.kept);
  ahead : All (λ share. AreAhead l.set l.nodes (get nat_cmp share)) l.ahead;
  made : g.L.Layers.tells → forced_tasks (g.L.Layers.files l.fn.layers) l.set no_sums 0 l.forced l.nodes ≡ behind l.tasks (forced_tasks (g.L.Layers.files l.fn.layers) l.set (sums_meant l.sums) l.number l.forced (drop l.number l.nodes));
}
