use Rattle.run_tests.proofs.Rows.{put_row}
use Rattle.run_tests.proofs.index.Index.put.Goals as goal

pub returns-clause-puts : goal.returns-clause-puts
returns-clause-puts c = put_row c.args.name (record { sig = c.args.sig; unihash = c.args.unihash }) c.args.self.now.rows c.insert.new.self c.in_ok-insert.ensures.updates.1 c.in_ok-insert.ensures.updates.0
