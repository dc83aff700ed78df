use Rattle.record_move.proofs.Wholly.{move_leaves_valid, valid_are_as_asked}
use Rattle.record_move.proofs.laws.moves_are_valid.Goals as goal

pub returns : goal.returns
returns c = record { asked = valid_are_as_asked; leaves = move_leaves_valid }
