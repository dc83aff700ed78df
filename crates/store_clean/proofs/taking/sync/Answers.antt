use Rattle.outside_traits.proofs.Calls.{syncs_passes}
use Rattle.store_clean.proofs.taking.sync.Goals as goal

pub returns-clause-same : goal.returns-clause-same
returns-clause-same g c told = syncs_passes (g.met.D.Disk.sound c.args.disk.now told) (c.sync.ensures.told told)
