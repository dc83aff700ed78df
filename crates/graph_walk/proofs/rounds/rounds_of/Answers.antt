use Rattle.std.proofs.Common.{◌∙◌, ap, map, arith}
use Rattle.std.proofs.lemmas.Result.{IfOk-weaker}
use Rattle.graph_walk.specs.Marks.{round_at}
use Rattle.graph_walk.proofs.Rounding.{rounds_are}
use Rattle.graph_walk.proofs.rounds.rounds_of.Goals as goal

pub returns : goal.returns
returns c =
    let walk = c.loop-root.walk in
    let so_far = c.loop-root.invariant in
    IfOk-weaker c.rounds_in.result _ _
    (λ made is. rounds_are c.args.edges.now walk.rings walk.marks.items walk.left.items walk.path.items so_far.walk so_far.empty (λ v lt. so_far.met v (omega arith)) made.items (is ∙ ap (map round_at) c.deref.ensures.value))
    c.rounds_in.ensures
