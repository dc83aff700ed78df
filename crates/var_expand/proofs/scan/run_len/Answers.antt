use Rattle.std.proofs.Common.{◌∙◌, ap, sym, arith, ◌||◌, codes}
use Rattle.meta_model.specs.Text.{begins_with}
use Rattle.var_expand.proofs.Openings.{run_step}
use Rattle.var_expand.proofs.Cuts.{whole_rest}
use Rattle.var_expand.proofs.scan.run_len.Goals as goal

pub loop-at-preserved : goal.loop-at-preserved
loop-at-preserved c = (
  omega (arith, c.loop-at-test.true),
  run_step c.args.bytes.now c.loop-at.at (omega (arith, c.loop-at-test.true)) c.loop-at.invariant.1
      (ap (λ t. begins_with (codes "}") t || begins_with (codes "${") t) (sym (whole_rest c.args.bytes.now c.loop-at.at)) ∙ sym c.ends_run.ensures ∙ c.if-not-ends_run.true),
)
