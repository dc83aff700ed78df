use Rattle.std.proofs.Common.{◌∙◌, ap, sym, arith}
use Rattle.tree_model.proofs.BelowLemmas.{before_last}
use Rattle.tree_model.proofs.edit.place_before.Goals as goal

pub returns-then-comes_before-clause-before : goal.returns-then-comes_before-clause-before
returns-then-comes_before-clause-before c =
    before_last c.args.entries.now c.args.place c.args.prefix.now c.as_str.result.now c.index-entries-place.result c.requires (omega arith) (omega arith)
    c.index-entries-place.is (c.as_str.ensures ∙ sym (ap (λ x. x.0) c.index-entries-place.is)) c.if-comes_before.ensures
