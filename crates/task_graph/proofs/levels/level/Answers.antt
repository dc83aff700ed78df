use Rattle.std.proofs.Common.{arith, length, sym, subst, List, ℕ, ap}
use Rattle.graph_walk.specs.Edges.{AreWithin}
use Rattle.task_graph.proofs.Placed.{edges_within, levels_are}
use Rattle.task_graph.proofs.levels.level.Goals as goal

pub depths_of-requires-clause-within : goal.depths_of-requires-clause-within
depths_of-requires-clause-within c =
    let are = c.in_ok-reached.ensures.ok in
    subst (λ (l : List (List ℕ)). AreWithin l) (sym c.as_slice.ensures.value) (edges_within c.args.facts.now c.args.context.now.table c.requires.context.table c.args.targets.now c.in_ok-reached.reached.tasks.items c.in_ok-reached.reached.edges.items c.in_ok-reached.reached.ends are)

pub depths_of-requires-clause-few : goal.depths_of-requires-clause-few
depths_of-requires-clause-few c = omega (arith, ap (length {A = List ℕ}) c.as_slice.ensures.value, c.in_ok-reached.ensures.ok.long, c.in_ok-reached.ensures.ok.few)

pub returns-clause-depths : goal.returns-clause-depths
returns-clause-depths c =
    levels_are c.args.facts.now c.args.context.now.table c.requires.context.table c.args.targets.now c.in_ok-reached.reached.tasks.items c.in_ok-reached.reached.edges.items c.in_ok-reached.reached.ends c.in_ok-reached.ensures.ok c.as_slice.result.now c.in_ok-depths.depths c.as_slice.ensures.value c.in_ok-depths.ensures
