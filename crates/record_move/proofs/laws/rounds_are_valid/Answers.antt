use Rattle.record_move.proofs.Rounding.{removal_is_valid, round_is_valid}
use Rattle.record_move.proofs.laws.rounds_are_valid.Goals as goal

pub returns : goal.returns
returns c = record { put = round_is_valid; removed = removal_is_valid }
