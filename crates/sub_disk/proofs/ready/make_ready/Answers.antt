use Rattle.outside_traits.proofs.Calls.{syncs_passes, then_same}
use Rattle.sub_disk.proofs.ready.make_ready.Goals as goal

pub returns-clause-way : goal.returns-clause-way
returns-clause-way g c = λ told. then_same (c.clear_above.ensures.way told) (syncs_passes (g.met.D.Disk.sound c.clear_above.new.disk told) (c.sync.ensures.told told))
