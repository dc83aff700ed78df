use Rattle.bb_report.proofs.Marks.{mark_set}
use Rattle.bb_report.proofs.ends.mark.Goals as goal

pub returns-then-place-marks : goal.returns-then-place-marks
returns-then-place-marks c tale are = mark_set tale c.args.logged.now c.in-Failed.task c.in-Failed.why c.args.marks.now c.in-Failed.is c.if-place-marks.true are
