use Rattle.std.proofs.Common.{arith, ◌-◌}
use Rattle.override_eval.specs.Settled.{pass_of, active_by}
use Rattle.override_eval.proofs.Passes.{settled_next}
use Rattle.override_eval.proofs.settling.settle.Goals as goal

pub loop-left-preserved : goal.loop-left-preserved
loop-left-preserved g c =
    let one = pass_of (g.T.OverrideText.text c.args.source.now) in
    settled_next one c.loop-left.left (c.loop-left.left - 1) c.loop-left.before c.loop-left.last c.in-Ok-pass.next c.as_slice-in-loop-left.result.now c.as_slice-in-loop-left-2.result.now c.as_slice-in-loop-left-3.result.now c.are_same.result (active_by one)
    (omega arith) c.as_slice-in-loop-left.ensures c.as_slice-in-loop-left-2.ensures c.are_same.ensures c.if-are_same.false c.as_slice-in-loop-left-3.ensures c.in-Ok-pass.ensures.ok c.loop-left.invariant
