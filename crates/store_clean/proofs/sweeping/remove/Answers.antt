use Rattle.outside_traits.proofs.Calls.{removes_passes}
use Rattle.store_clean.proofs.sweeping.remove.Goals as goal

pub returns-clause-changes : goal.returns-clause-changes
returns-clause-changes g c told = removes_passes (c.remove.ensures.told told)
