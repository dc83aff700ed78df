use Rattle.std.proofs.Common.{refl}
use Rattle.class_inherit.proofs.Adding.{taken_now, taken_fault}
use Rattle.class_inherit.proofs.entries.taken.Goals as goal

pub returns-in-Ok-clause-ok : goal.returns-in-Ok-clause-ok
returns-in-Ok-clause-ok c = taken_now c.args.reading.now.lines c.args.reading.now.lines c.args.op c.args.text.now c.as_str.result.now c.in-Ok.expanded c.in-Now.is refl c.as_str.ensures c.in-Ok.ensures.ok

pub returns-in-Err-clause-err : goal.returns-in-Err-clause-err
returns-in-Err-clause-err c = taken_fault c.args.reading.now.lines c.args.reading.now.lines c.args.op c.args.text.now c.as_str.result.now c.in-Err.fault c.in-Now.is refl c.as_str.ensures c.in-Err.ensures.err
