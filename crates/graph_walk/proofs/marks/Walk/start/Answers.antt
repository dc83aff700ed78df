use Rattle.std.proofs.Common.{ap}
use Rattle.graph_walk.proofs.Walking.{put_first}
use Rattle.graph_walk.proofs.marks.Walk.start.Goals as goal

pub returns-in_ok-open-clause-walk : goal.returns-in_ok-open-clause-walk
returns-in_ok-open-clause-walk c =
    let walk = c.args.self.now in
    rw (c.in_ok-open.ensures.marks, c.in_ok-open.ensures.path, ap (λ v. v.items) c.in_ok-open.ensures.left, c.in_ok-open.ensures.rings)
    (put_first c.args.edges.now walk.rings walk.marks.items walk.left.items walk.path.items c.requires.walk c.args.root c.requires.root (c.is_new.ensures.0 c.if-is_new.true) c.requires.empty)
