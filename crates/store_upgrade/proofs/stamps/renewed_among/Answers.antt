use Rattle.store_upgrade.proofs.Stamped.{renewed_at_all, renewed_at_more}
use Rattle.store_upgrade.proofs.stamps.renewed_among.Goals as goal

pub loop-file-preserved : goal.loop-file-preserved
loop-file-preserved c = record { at = renewed_at_more c.args.names.now.entries c.args.files.now c.loop-file.file-index c.file-item.result c.loop-file.found.items c.put_renewed.new.found.items c.loop-file-test.true c.file-item.is c.loop-file.invariant.at c.in_ok-put_renewed.ensures.takes; folders = c.in_ok-put_renewed.ensures.folders c.loop-file.invariant.folders }

pub returns-clause-at : goal.returns-clause-at
returns-clause-at c = renewed_at_all c.args.names.now.entries c.args.files.now c.loop-file.file-index c.loop-file.found.items c.loop-file-test.false c.loop-file.invariant.at
