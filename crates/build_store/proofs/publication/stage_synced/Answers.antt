use Rattle.outside_traits.proofs.Calls.{syncs_passes, then_same}
use Rattle.build_store.proofs.Free.{free_staged}
use Rattle.build_store.proofs.publication.stage_synced.Goals as goal

pub stage-requires-clause-free : goal.stage-requires-clause-free
stage-requires-clause-free g c told = free_staged (g.D.Disk.story c.args.disk.now).held c.args.folder.now c.requires.parts (c.requires.laid_out told)

pub returns-clause-others : goal.returns-clause-others
returns-clause-others g c told = then_same (c.stage.ensures.images told) (syncs_passes (g.met.D.Disk.sound c.stage.new.disk told) (c.sync.ensures.told told))
