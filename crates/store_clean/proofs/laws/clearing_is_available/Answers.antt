use Rattle.store_clean.proofs.Offered.{clearing_is_available}
use Rattle.store_clean.proofs.laws.clearing_is_available.Goals as goal

pub returns : goal.returns
returns c = clearing_is_available
