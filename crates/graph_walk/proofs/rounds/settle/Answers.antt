use Rattle.std.proofs.Common.{ap}
use Rattle.graph_walk.proofs.Walking.{given_up}
use Rattle.graph_walk.proofs.rounds.settle.Goals as goal

pub returns-in-Some-clause-walk : goal.returns-in-Some-clause-walk
returns-in-Some-clause-walk c =
    let walk = c.visit.new.self in
    let met = rw c.in-Some.is at c.in_ok-visit.ensures.closed in
    rw (c.give_up.ensures.rings, ap (λ v. v.items) c.give_up.ensures.marks, ap (λ v. v.items) c.give_up.ensures.left, c.give_up.ensures.path)
    (given_up c.args.edges.now walk.rings walk.marks.items walk.left.items walk.path.items c.in_ok-visit.ensures.walk c.in-Some.field-0 met)
