use Rattle.std.proofs.Common.{◌<◌, sym, subst, length, List, ℕ, All}
use Rattle.graph_walk.specs.declared.depth.Depths.{Depths}
use Rattle.task_graph.specs.Edges.{IsNumbered}
use Rattle.task_graph.specs.Levels.{AreLevels, HasTaskDepths}
use Rattle.task_graph.specs.Reached.{HasTaskCycle}
use Rattle.task_graph.specs.Order.{IsEmitted}
use Rattle.task_graph.specs.Turn.{IsTurned}
use Rattle.task_graph.proofs.Placed.{edges_within}
use Rattle.task_graph.proofs.Graphed.{graph_is, nodes_few, no_refusal, ends_inside, tasks_numbered, cycle_inside}
use Rattle.task_graph.proofs.Turning.{is_task_cycle}
use Rattle.task_graph.proofs.graph.graph_of.Goals as goal

pub turned-requires-clause-numbered : goal.turned-requires-clause-numbered
turned-requires-clause-numbered c =
    let facts = c.args.facts.now in
    let table = c.args.context.now.table in
    let reached = c.args.leveled.now.reached in
    subst (λ (l : List ℕ). All (IsNumbered table) l) (sym c.deref.ensures.value) (tasks_numbered facts table c.args.targets.now reached.tasks.items reached.edges.items reached.ends c.requires.reached)

pub turned-requires-clause-within : goal.turned-requires-clause-within
turned-requires-clause-within c =
    let facts = c.args.facts.now in
    let table = c.args.context.now.table in
    let targets = c.args.targets.now in
    let found = c.args.leveled.now.reached.tasks.items in
    let has : HasTaskCycle facts table targets found c.in-Cycle.places.items = subst (λ (d : Depths). AreLevels facts table targets found d) c.in-Cycle.is c.requires.depths in
    let within = cycle_inside facts table targets found c.in-Cycle.places.items has in
    subst (λ (l : List ℕ). All (λ p. p < length l) c.deref-in-Cycle.result.now) (sym c.deref.ensures.value) (subst (λ (l : List ℕ). All (λ p. p < length found) l) (sym c.deref-in-Cycle.ensures.value) within)

pub returns-in_ok-turned-in-Cycle-clause-err : goal.returns-in_ok-turned-in-Cycle-clause-err
returns-in_ok-turned-in-Cycle-clause-err c =
    let facts = c.args.facts.now in
    let table = c.args.context.now.table in
    let targets = c.args.targets.now in
    let found = c.args.leveled.now.reached.tasks.items in
    let tasks = c.in_ok-turned-in-Cycle.field-0 in
    let has : HasTaskCycle facts table targets found c.in-Cycle.places.items = subst (λ (d : Depths). AreLevels facts table targets found d) c.in-Cycle.is c.requires.depths in
    let turned : IsTurned facts table found c.in-Cycle.places.items tasks = subst (λ (l : List ℕ). IsTurned facts table l c.in-Cycle.places.items tasks) c.deref.ensures.value (subst (λ (l : List ℕ). IsTurned facts table c.deref.result.now l tasks) c.deref-in-Cycle.ensures.value c.in_ok-turned-in-Cycle.ensures) in
    is_task_cycle facts table targets found c.in-Cycle.places.items tasks has turned

pub emit-requires-clause-numbered : goal.emit-requires-clause-numbered
emit-requires-clause-numbered c =
    let reached = c.args.leveled.now.reached in
    tasks_numbered c.args.facts.now c.args.context.now.table c.args.targets.now reached.tasks.items reached.edges.items reached.ends c.requires.reached

pub emit-requires-clause-edges : goal.emit-requires-clause-edges
emit-requires-clause-edges c =
    let reached = c.args.leveled.now.reached in
    edges_within c.args.facts.now c.args.context.now.table c.requires.context.table c.args.targets.now reached.tasks.items reached.edges.items reached.ends c.requires.reached

pub emit-requires-clause-ends : goal.emit-requires-clause-ends
emit-requires-clause-ends c =
    let reached = c.args.leveled.now.reached in
    ends_inside c.args.facts.now c.args.context.now.table c.args.targets.now reached.tasks.items reached.edges.items reached.ends c.requires.reached

pub returns-in_ok-emit-in-Found-clause-graph : goal.returns-in_ok-emit-in-Found-clause-graph
returns-in_ok-emit-in-Found-clause-graph c =
    let facts = c.args.facts.now in
    let table = c.args.context.now.table in
    let targets = c.args.targets.now in
    let reached = c.args.leveled.now.reached in
    let depths = c.in-Found.depths.items in
    let deep : HasTaskDepths facts table reached.tasks.items c.in-Found.depths.items = subst (λ (d : Depths). AreLevels facts table targets reached.tasks.items d) c.in-Found.is c.requires.depths in
    let made : IsEmitted facts table reached.tasks.items reached.edges.items reached.ends c.in-Found.depths.items c.in_ok-emit-in-Found.field-0 = subst (λ (l : List ℕ). IsEmitted facts table reached.tasks.items reached.edges.items reached.ends l c.in_ok-emit-in-Found.field-0) c.deref-in-Found.ensures.value c.in_ok-emit-in-Found.ensures in
    graph_is facts table c.requires.context.table targets reached.tasks.items reached.edges.items reached.ends c.requires.reached depths deep c.in_ok-emit-in-Found.field-0 made

pub returns-in_ok-emit-in-Found-clause-few : goal.returns-in_ok-emit-in-Found-clause-few
returns-in_ok-emit-in-Found-clause-few c =
    let facts = c.args.facts.now in
    let table = c.args.context.now.table in
    let targets = c.args.targets.now in
    let reached = c.args.leveled.now.reached in
    let depths = c.in-Found.depths.items in
    let deep : HasTaskDepths facts table reached.tasks.items c.in-Found.depths.items = subst (λ (d : Depths). AreLevels facts table targets reached.tasks.items d) c.in-Found.is c.requires.depths in
    let made : IsEmitted facts table reached.tasks.items reached.edges.items reached.ends c.in-Found.depths.items c.in_ok-emit-in-Found.field-0 = subst (λ (l : List ℕ). IsEmitted facts table reached.tasks.items reached.edges.items reached.ends l c.in_ok-emit-in-Found.field-0) c.deref-in-Found.ensures.value c.in_ok-emit-in-Found.ensures in
    nodes_few facts table c.requires.context.table targets reached.tasks.items reached.edges.items reached.ends c.requires.reached depths deep c.in_ok-emit-in-Found.field-0 made

pub returns-in_ok-emit-in-Found-clause-whole : goal.returns-in_ok-emit-in-Found-clause-whole
returns-in_ok-emit-in-Found-clause-whole c =
    let reached = c.args.leveled.now.reached in
    no_refusal c.args.facts.now c.args.context.now.table c.args.targets.now reached.tasks.items reached.edges.items reached.ends c.requires.reached
