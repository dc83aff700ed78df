use Rattle.std.proofs.Common.{◌∙◌, ap, sym}
use Rattle.tree_model.proofs.BelowLemmas.{begins_at}
use Rattle.tree_model.proofs.edit.start_near.Goals as goal

pub returns-then-not-comes_before : goal.returns-then-not-comes_before
returns-then-not-comes_before c =
    begins_at c.args.entries.now c.loop-place.place c.args.prefix.now c.as_str.result.now c.index-entries-place.result c.requires c.loop-place-test.true
    c.index-entries-place.is (c.as_str.ensures ∙ sym (ap (λ x. x.0) c.index-entries-place.is)) c.loop-place.invariant c.if-not-comes_before.ensures
