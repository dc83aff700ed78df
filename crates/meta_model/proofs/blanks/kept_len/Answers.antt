use Rattle.std.proofs.Common.{arith, sym, ◌∙◌}
use Rattle.meta_model.specs.Text.{is_one_of}
use Rattle.meta_model.proofs.Edges.{without_end-back, without_end-here}
use Rattle.meta_model.proofs.blanks.kept_len.Goals as goal

pub loop-end-preserved : goal.loop-end-preserved
loop-end-preserved c = record {
  within = omega arith;
  kept = without_end-back (is_one_of c.args.ends.now) c.args.line.now c.loop-end.end (omega arith) (omega arith) (sym c.contains.ensures.value ∙ c.if-contains.true) ∙ c.loop-end.invariant.kept;
  stop = λ below. sym c.contains.ensures.value ∙ c.if-contains.true;
}

pub returns-else-contains-clause-kept : goal.returns-else-contains-clause-kept
returns-else-contains-clause-kept c = sym (without_end-here (is_one_of c.args.ends.now) c.args.line.now c.loop-end.end (omega arith) (omega arith) (sym c.contains.ensures.value ∙ c.if-contains.false)) ∙ c.loop-end.invariant.kept
