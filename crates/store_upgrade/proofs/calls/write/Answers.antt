use Rattle.outside_traits.proofs.Calls.{writes_passes}
use Rattle.store_upgrade.proofs.calls.write.Goals as goal

pub returns-clause-changes : goal.returns-clause-changes
returns-clause-changes g c told = writes_passes (c.write.ensures.told told)
