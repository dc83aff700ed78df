use Rattle.std.proofs.Common.{◌≡◌, ◌++◌, take}
use Rattle.run_model.specs.Texts as texts
use Rattle.bb_report.proofs.fault.push_detail.Given as goal

abbrev pub invariant-loop-text : goal.invariant-loop-text
invariant-loop-text l = l.made ≡ l.fn.made ++ texts.behind_blanks (take l.text-index l.detail)
