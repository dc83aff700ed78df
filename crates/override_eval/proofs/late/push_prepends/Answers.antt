use Rattle.std.proofs.Common.{arith, ◌-◌}
use Rattle.meta_model.specs.declared.entry.Late.TheVariants.{Prepend}
use Rattle.override_eval.proofs.Lates.{put_back}
use Rattle.override_eval.proofs.late.push_prepends.Goals as goal

pub loop-left-preserved : goal.loop-left-preserved
loop-left-preserved c = record {
  within = omega arith;
  put = put_back Prepend c.args.active.now c.args.ops.now c.loop-left.left (c.loop-left.left - 1) c.index-ops-left.result c.args.text.now c.loop-left.text c.push_text.new.text (omega arith) (omega arith) c.index-ops-left.is c.loop-left.invariant.put c.in_ok-push_text.ensures;
}
