use Rattle.std.proofs.Common.{ap}
use Rattle.graph_walk.proofs.Walking.{dropped}
use Rattle.graph_walk.proofs.marks.Walk.turn.Goals as goal

pub returns-else-is_open-clause-walk : goal.returns-else-is_open-clause-walk
returns-else-is_open-clause-walk c =
    let walk = c.args.self.now in
    rw (ap (λ v. v.items) c.leave.ensures.marks, ap (λ v. v.items) c.leave.ensures.left, c.leave.ensures.path, c.leave.ensures.rings)
    (dropped c.args.edges.now walk.rings walk.marks.items walk.left.items walk.path.items c.requires.within c.requires.walk c.args.node c.requires.last (λ is. let t = c.is_open.ensures.1 is in cc))
