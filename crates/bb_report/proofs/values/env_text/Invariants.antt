use Rattle.std.proofs.Common.{◌≡◌, take}
use Rattle.run_model.specs.Texts as texts
use Rattle.bb_report.proofs.values.env_text.Given as goal

abbrev pub invariant-loop-row : goal.invariant-loop-row
invariant-loop-row l = l.made ≡ texts.env_text (take l.row-index l.rows)
