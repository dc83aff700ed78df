use Rattle.std.proofs.Common.{◌≡◌, sym, ◌∙◌, ap, subst, ℕ, ◌<◌, List, map, arith}
use Rattle.graph_walk.specs.declared.marks.Mark.{Mark}
use Rattle.graph_walk.specs.declared.marks.Mark.TheVariants.{Done}
use Rattle.graph_walk.specs.Marks.{mark_at, depth_at}
use Rattle.graph_walk.specs.Found.{HasCycle}
use Rattle.graph_walk.proofs.Deepest.{depths_small, has_depths, all_done, on_path, cycle_from}
use Rattle.graph_walk.proofs.depth.depths_of.Goals as goal

pub path_from-requires-clause-met : goal.path_from-requires-clause-met
path_from-requires-clause-met c =
    let walk = c.visit.new.self in
    let met = rw c.in-Some.is at c.in_ok-met.ensures.closed in
    rw c.deref.ensures.value (on_path c.args.edges.now walk.rings walk.path.items c.in-Some.met met (c.in_ok-met.ensures.rings ∙ c.loop-root.invariant.none))

pub returns-in-Some : goal.returns-in-Some
returns-in-Some c =
    let edges = c.args.edges.now in
    let walk = c.visit.new.self in
    let met = rw c.in-Some.is at c.in_ok-met.ensures.closed in
    let from = rw c.deref.ensures.value at c.in_ok-path_from.ensures in
    subst (λ (nodes : List ℕ). HasCycle edges nodes) (sym from.3)
    (cycle_from edges walk.rings walk.marks.items walk.left.items walk.path.items c.in_ok-met.ensures.walk c.in-Some.met from.0 met from.1 from.2)

pub depths_in-requires : goal.depths_in-requires
depths_in-requires c =
    let walk = c.loop-root.walk in
    subst (λ (marks : List Mark). (v depth : ℕ) → mark_at marks v ≡ Done depth → depth < 4294967296) (sym c.deref-2.ensures.value)
    (depths_small c.args.edges.now walk.rings walk.marks.items walk.left.items walk.path.items c.loop-root.invariant.walk 4294967296 c.requires.few)

pub returns : goal.returns
returns c =
    let edges = c.args.edges.now in
    let walk = c.loop-root.walk in
    let so_far = c.loop-root.invariant in
    let done = all_done edges walk.rings walk.marks.items walk.left.items walk.path.items so_far.walk so_far.none so_far.empty (λ v lt. so_far.met v (omega arith)) in
    has_depths edges walk.rings walk.marks.items walk.left.items walk.path.items c.requires.within so_far.walk done c.in_ok-depths_in.field-0.items
    (c.in_ok-depths_in.ensures ∙ ap (map depth_at) c.deref-2.ensures.value)
