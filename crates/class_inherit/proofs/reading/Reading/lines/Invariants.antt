use Rattle.std.proofs.Common.{◌≡◌, take}
use Rattle.load_model.specs.Loading.{with_lines}
use Rattle.class_inherit.proofs.reading.Reading.lines.Given as goal

abbrev pub invariant-loop-line : goal.invariant-loop-line
invariant-loop-line l = l.reading ≡ with_lines (take l.line-index l.lines) l.fn.self
