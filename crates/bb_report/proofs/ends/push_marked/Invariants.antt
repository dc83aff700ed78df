use Rattle.std.proofs.Common.{◌≡◌, ◌++◌, take}
use Rattle.run_model.specs.Report.{comma_joined}
use Rattle.bb_report.specs.Runs.{marked}
use Rattle.bb_report.proofs.Marks.{is_some}
use Rattle.bb_report.proofs.ends.push_marked.Given as goal

abbrev pub invariant-loop-n : goal.invariant-loop-n
invariant-loop-n l = record {
  made : l.made ≡ l.fn.made ++ comma_joined (marked (take l.n l.tasks) (take l.n l.marks));
  later : l.is_later ≡ is_some (marked (take l.n l.tasks) (take l.n l.marks));
}
