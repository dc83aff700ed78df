use Rattle.std.proofs.Common.{rules, ap, ◌∙◌}
use Rattle.turn_lock.proofs.Keeps.{joins, tells}
use Rattle.turn_lock.proofs.lock.TurnLock.join.Goals as goal

pub join_seat-requires : goal.join_seat-requires
join_seat-requires g c = (search rules, search rules, search rules, search rules, joins g.S.Story.name g.S.Story.tale g.S.Story.author _ _ _ _ _ _ c.args.seat.now.live c.requires.free.0.0 c.args.other.live c.requires.free.1.0 c.requires.spare)

pub load-requires : goal.load-requires
load-requires g c = let is = ap (λ m. m.0) c.join_seat.ensures.2 in
    (search rules, search rules, tells g.S.Story.name g.S.Story.tale g.S.Story.author _ _ _ _ _ _ (ap (λ v. v.live) is ∙ c.args.seat.now.live) (ap (λ v. v.stage) is))
