use Rattle.record_move.proofs.Choosing.{asked_are_wanted, wanted_is_valid}
use Rattle.record_move.proofs.laws.wanted_is_valid.Goals as goal

pub returns : goal.returns
returns c = record { valid = wanted_is_valid; asked = asked_are_wanted }
