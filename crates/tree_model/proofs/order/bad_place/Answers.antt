use Rattle.std.proofs.Common.{arith}
use Rattle.tree_model.proofs.TreeLemmas.{clean_more, ordered_more, up_to_behind, bad_from_unclean, bad_from_covered}
use Rattle.tree_model.proofs.order.bad_place.Goals as goal
use Rattle.tree_model.proofs.order.bad_place.Goals.{then-not-is_clean-via-then-not-is_clean, then-not-is_clean-via-else-not-is_clean+then-stands_over}

pub stands_over-requires-clause-first : goal.stands_over-requires-clause-first
stands_over-requires-clause-first c = up_to_behind c.args.entries.now c.loop-place.place c.as_str-path.result.now c.index-entries-place.result c.loop-place-test.true c.index-entries-place.is c.as_str-path.ensures c.requires

pub returns-then-not-is_clean-clause-first : goal.returns-then-not-is_clean-clause-first
returns-then-not-is_clean-clause-first c =
    elim c.then-not-is_clean.branch [
      | then-not-is_clean-via-then-not-is_clean w ↦ bad_from_unclean c.args.entries.now c.loop-place.place c.as_str-path.result.now c.index-entries-place.result c.loop-place-test.true c.index-entries-place.is c.as_str-path.ensures c.requires c.loop-place.invariant.clean c.loop-place.invariant.ordered (λ h. (let t = c.is_clean.ensures.1 h in cc))
      | then-not-is_clean-via-else-not-is_clean+then-stands_over w ↦ bad_from_covered c.args.entries.now c.loop-place.place c.as_str-path.result.now c.index-entries-place.result c.loop-place-test.true c.index-entries-place.is c.as_str-path.ensures c.requires c.loop-place.invariant.clean c.loop-place.invariant.ordered w.if-stands_over.ensures
    ]

pub loop-place-preserved : goal.loop-place-preserved
loop-place-preserved c = record {
  clean = clean_more c.args.entries.now c.loop-place.place c.as_str-path.result.now c.index-entries-place.result c.loop-place-test.true c.index-entries-place.is c.as_str-path.ensures (c.is_clean.ensures.0 c.if-not-is_clean.false) c.loop-place.invariant.clean;
  ordered = ordered_more c.args.entries.now c.loop-place.place c.as_str-path.result.now c.index-entries-place.result c.loop-place-test.true c.index-entries-place.is c.as_str-path.ensures c.requires c.if-stands_over.ensures c.loop-place.invariant.ordered;
}

pub returns-clause-none : goal.returns-clause-none
returns-clause-none c = record {
  clean = λ k d lt. c.loop-place.invariant.clean k d (omega arith);
  ordered = λ k j d lt lt2. c.loop-place.invariant.ordered k j d (omega arith) lt lt2;
}
