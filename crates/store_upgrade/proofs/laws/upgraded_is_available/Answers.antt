use Rattle.store_upgrade.proofs.Brought.{upgraded_available}
use Rattle.store_upgrade.proofs.laws.upgraded_is_available.Goals as goal

pub returns : goal.returns
returns c = upgraded_available
