use Rattle.std.proofs.Common.{◌≡◌, ◌∙◌, sym, Some, None}
use Rattle.run_tests.specs.Index.{row_of}
use Rattle.run_tests.proofs.Rows.{clear_here, row_absent, row_kept}
use Rattle.run_tests.proofs.index.IndexProbe.compare.Goals as goal

pub returns-in-None-clause-clear : goal.returns-in-None-clause-clear
returns-in-None-clause-clear c = λ row found. absurd (let none : None ≡ Some row = sym (row_absent c.args.name.now c.args.self.now.rows c.in-None.ensures.value) ∙ found in cc)

pub returns-then-is_signed-clause-clear : goal.returns-then-is_signed-clause-clear
returns-then-is_signed-clause-clear c = clear_here c.args.name.now c.args.self.now.rows c.in-Some.row.now c.args.sig.now c.in-Some.ensures.value c.if-is_signed.ensures

pub returns-in-Some-checked_add-clause-other : goal.returns-in-Some-checked_add-clause-other
returns-in-Some-checked_add-clause-other c = λ same. record {
  row = row_of (c.args.name.now.bytes, c.in-Some.row.now);
  is_row = row_kept c.args.name.now c.args.self.now.rows c.in-Some.row.now c.in-Some.ensures.value;
  differs = c.if-is_signed.ensures;
}
