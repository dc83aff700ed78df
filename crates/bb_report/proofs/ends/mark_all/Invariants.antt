use Rattle.std.proofs.Common.{take, length}
use Rattle.bb_report.specs.Runs.{AreMarks}
use Rattle.bb_report.proofs.ends.mark_all.Given as goal

abbrev pub invariant-loop-logged : goal.invariant-loop-logged
invariant-loop-logged l = AreMarks (take l.logged-index l.tale) (length l.marks) l.marks
