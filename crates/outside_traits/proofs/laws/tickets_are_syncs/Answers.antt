use Rattle.outside_traits.proofs.Durable.{at_once_is_sync}
use Rattle.outside_traits.proofs.Syncing.{at_once_is_same}
use Rattle.outside_traits.proofs.laws.tickets_are_syncs.Goals as goal

pub returns-clause-same : goal.returns-clause-same
returns-clause-same c = at_once_is_same

pub returns-clause-sync : goal.returns-clause-sync
returns-clause-sync c = at_once_is_sync
