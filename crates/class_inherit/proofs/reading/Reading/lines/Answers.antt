use Rattle.std.proofs.Common.{arith}
use Rattle.class_inherit.proofs.Adding.{none_added, one_line, all_lines}
use Rattle.class_inherit.proofs.reading.Reading.lines.Goals as goal

pub loop-line-init : goal.loop-line-init
loop-line-init c = none_added c.args.self

pub loop-line-preserved : goal.loop-line-preserved
loop-line-preserved c = one_line c.args.lines.now c.loop-line.line-index c.line-item.result c.args.self c.loop-line.reading c.apply.new.self c.loop-line.invariant c.in_ok-apply.ensures.ok c.line-item.is c.loop-line-test.true

pub returns : goal.returns
returns c = all_lines c.args.lines.now c.loop-line.line-index c.args.self c.loop-line.reading c.loop-line.invariant (omega arith)
