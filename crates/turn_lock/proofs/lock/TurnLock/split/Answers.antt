use Rattle.std.proofs.Common.{rules}
use Rattle.turn_lock.proofs.Keeps.{splits}
use Rattle.turn_lock.proofs.lock.TurnLock.split.Goals as goal

pub split_seat-pass-requires : goal.split_seat-pass-requires
split_seat-pass-requires g c = (search rules, search rules, splits g.S.Story.name g.S.Story.tale g.S.Story.author _ _ _ _ c.args.seat.now.live c.requires.free.0 c.requires.spare)
