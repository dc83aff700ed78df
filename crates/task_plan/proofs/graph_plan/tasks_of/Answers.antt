use Rattle.std.proofs.Common.{◌≡◌, ◌∙◌, ◌∷◌, ◌++◌, [], ap, sym, subst, drop, ◌+◌, nat_eq, ◌||◌, length, refl}
use Rattle.std.specs.List.{list_any}
use Rattle.meta_model.specs.Passing.{behind}
use Rattle.plan_model.specs.Plans.{no_sums, planned_node}
use Rattle.task_plan.specs.Faults.{IsPlanFault}
use Rattle.task_plan.specs.Meant.{sums_meant}
use Rattle.task_plan.specs.Steps.{forced_tasks}
use Rattle.std.proofs.lemmas.Option.{slice_get_read}
use Rattle.task_plan.proofs.Aheads.{made_of}
use Rattle.task_plan.proofs.Faulting.{plan_exit_told}
use Rattle.task_plan.proofs.Taking.{goes_on_node, node_fault}
use Rattle.task_plan.proofs.graph_plan.tasks_of.Goals.{then-task, else-task}
use Rattle.task_plan.proofs.graph_plan.tasks_of.Goals as goal

pub returns-in_err-task-clause-err : goal.returns-in_err-task-clause-err
returns-in_err-task-clause-err g c =
    let files = g.L.Layers.files c.args.layers.now in
    let set = c.args.set.now in
    let nodes = c.args.nodes.now in
    let forced = c.args.forced.now in
    let whole = forced_tasks files set no_sums 0 forced nodes in
    let fault = c.in_err-task.field-0.0 in
    let inv = c.loop-number.invariant in
    let node = c.index-nodes-number.result in
    plan_exit_told c.from_residual.result fault whole c.from_residual.ensures.1
    (λ told. node_fault files set forced whole c.loop-number.tasks (sums_meant c.loop-number.sums) nodes c.loop-number.number node fault c.index-nodes-number.is c.loop-number-test.true (inv.made told)
    (subst (λ f. IsPlanFault fault (planned_node f set node (sums_meant c.loop-number.sums))) inv.same (c.in_err-task.ensures.err told)))

pub planned_node-requires-clause-made : goal.planned_node-requires-clause-made
planned_node-requires-clause-made g c =
    let set = c.args.set.now in
    let nodes = c.args.nodes.now in
    let number = c.loop-number.number in
    let node = c.index-nodes-number.result in
    let here = slice_get_read nodes (length nodes) number node refl c.loop-number-test.true c.index-nodes-number.is in
    made_of set nodes number node c.take-made.result here
    (c.take-made.ensures.made set nodes c.loop-number.invariant.ahead)

pub loop-number-preserved : goal.loop-number-preserved
loop-number-preserved g c =
    let files = g.L.Layers.files c.args.layers.now in
    let set = c.args.set.now in
    let nodes = c.args.nodes.now in
    let forced = c.args.forced.now in
    let whole = forced_tasks files set no_sums 0 forced nodes in
    let inv = c.loop-number.invariant in
    let node = c.index-nodes-number.result in
    let number = c.loop-number.number in
    let task = c.in_ok-task.task in
    let next = sums_meant c.planned_node.new.sums in
    let is : c.if-task.task ≡ (task.nostamp || list_any (nat_eq number) forced) = elim c.if-task.branch [
      | then-task w ↦ w.task-is ∙ w.if-task.true ∙ ap (λ b. b || list_any (nat_eq number) forced) (sym w.if-task.true)
      | else-task w ↦ w.task-is ∙ w.is_one_of.ensures ∙ ap (λ b. b || list_any (nat_eq number) forced) (sym w.if-task.false)
    ] in
    record {
      same = c.in_ok-task.ensures.same ∙ inv.same;
      faults = c.in_ok-task.ensures.cause.stayed ∙ inv.faults;
      kept = c.in_ok-task.ensures.kept;
      ahead = c.take-made.ensures.left set nodes inv.ahead;
      made = λ told.
          goes_on_node files set forced whole c.loop-number.tasks (sums_meant c.loop-number.sums) next nodes number node task c.index-nodes-number.is c.loop-number-test.true (inv.made told)
          (ap (λ f. planned_node f set node (sums_meant c.loop-number.sums)) (sym inv.same) ∙ c.in_ok-task.ensures.ok told)
          ∙ ap (λ l. behind l (forced_tasks files set next (number + 1) forced (drop (number + 1) nodes))) (ap (λ b. c.loop-number.tasks ++ record task { nostamp = b } ∷ []) (sym is) ∙ sym c.in_ok-push.ensures.ok);
    }
