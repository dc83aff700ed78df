use Rattle.std.proofs.Common.{◌∙◌, ap, sym, codes}
use Rattle.meta_model.specs.Text.{begins_with}
use Rattle.var_expand.proofs.Cuts.{opening_cut, brace_cut}
use Rattle.var_expand.proofs.reading.step.Goals as goal

pub returns-then-starts_with-clause-cut : goal.returns-then-starts_with-clause-cut
returns-then-starts_with-clause-cut c =
    opening_cut c.args.rest.now c.utf8.rest (ap (begins_with (codes "${")) (sym c.as_bytes-bytes.ensures.value) ∙ sym c.starts_with.ensures.value ∙ c.if-starts_with.true)

pub returns-then-starts_with-2-clause-cut : goal.returns-then-starts_with-2-clause-cut
returns-then-starts_with-2-clause-cut c =
    brace_cut c.args.rest.now c.utf8.rest (ap (begins_with (codes "}")) (sym c.as_bytes-bytes.ensures.value) ∙ sym c.starts_with-2.ensures.value ∙ c.if-starts_with-2.true)
