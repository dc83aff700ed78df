use Rattle.build_store.specs.Drafts.{file_of}
use Rattle.build_store.proofs.Free.{free_staged}
use Rattle.build_store.proofs.Phasing.{stages_by_stamp}
use Rattle.build_store.proofs.ending.stage_files.Goals as goal

pub stage-requires-clause-free : goal.stage-requires-clause-free
stage-requires-clause-free g c told = rw c.as_str.ensures (free_staged (g.D.Disk.story c.stage_record.new.disk).held c.args.one.now.folder c.requires.fit.parts (c.stage_record.ensures.laid_out told))

pub returns-clause-laid_out : goal.returns-clause-laid_out
returns-clause-laid_out g c told =
    (stages_by_stamp c.args.one.now.name (file_of c.args.one.now.new) c.args.one.now.folder (g.D.Disk.story c.stage_record.new.disk).held (g.D.Disk.story c.stage.new.disk).held c.requires.fit.parts (rw c.as_str.ensures at (c.stage.ensures.images told)).held).laid_out (c.stage_record.ensures.laid_out told)
