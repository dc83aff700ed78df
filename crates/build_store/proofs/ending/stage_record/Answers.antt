use Rattle.build_store.specs.Drafts.{file_of}
use Rattle.build_store.proofs.Phasing.{stages_by_record}
use Rattle.build_store.proofs.ending.stage_record.Goals as goal

pub returns-in-Some-clause-laid_out : goal.returns-in-Some-clause-laid_out
returns-in-Some-clause-laid_out g c told =
    (stages_by_record c.args.one.now.name (file_of c.args.one.now.new) (g.D.Disk.story c.args.disk.now).held (g.D.Disk.story c.write_record.new.disk).held c.requires.name (c.write_record.ensures.others told).held).laid_out (c.requires.laid_out told)
