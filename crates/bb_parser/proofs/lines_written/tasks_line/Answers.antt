use Rattle.bb_parser.proofs.WritableFacts.{tasks-pushed}
use Rattle.bb_parser.proofs.lines_written.tasks_line.Goals as goal

pub returns : goal.returns
returns c = tasks-pushed c.args.names.now c.args.after.now c.args.before.now c.in_ok-line.line c.push_part.new.line c.push_part-2.new.line c.in_ok-line.ensures c.in_ok-push_part.ensures c.in_ok-push_part-2.ensures
