use Rattle.std.proofs.lemmas.List.{take_all}
use Rattle.std.proofs.Common.{arith}
use Rattle.meta_model.specs.declared.entry.Late.TheVariants.{Append}
use Rattle.override_eval.proofs.Lates.{put_more}
use Rattle.override_eval.proofs.late.push_appends.Goals as goal

pub loop-line-preserved : goal.loop-line-preserved
loop-line-preserved c = put_more Append c.args.active.now c.args.ops.now c.loop-line.line-index c.line-item.result c.args.text.now c.loop-line.text c.push_text.new.text (omega arith) c.line-item.is c.loop-line.invariant c.in_ok-push_text.ensures

pub returns : goal.returns
returns c = rw (take_all _ _ c.loop-line-test.false) at c.loop-line.invariant
