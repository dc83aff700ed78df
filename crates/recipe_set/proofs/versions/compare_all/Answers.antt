use Rattle.std.proofs.Common.{◌≡◌, sym, ◌∙◌, ap}
use Rattle.std.specs.Ordering.{nat_cmp, ordering_then}
use Rattle.recipe_set.specs.Kinds.{kind_of, rank_of}
use Rattle.load_model.specs.Versions.{weights_of}
use Rattle.recipe_set.proofs.Pieces.{weights_cmp, digits_in, stepped, then_first, same_kind, is_there, is_gone, ranks_apart, compare_differ, compare_ended}
use Rattle.recipe_set.proofs.versions.compare_all.Goals as goal
use Rattle.recipe_set.proofs.versions.compare_all.Goals.{then-loop-kind-test+else-rank, else-loop-kind-test}

pub compare_pieces-requires-clause-left : goal.compare_pieces-requires-clause-left
compare_pieces-requires-clause-left c =
    digits_in c.of-kind.result c.loop-kind.left.now c.split_at.result.0.now c.piece_length.result c.piece_length.ensures.value c.split_at.ensures.front

pub compare_pieces-requires-clause-right : goal.compare_pieces-requires-clause-right
compare_pieces-requires-clause-right c =
    digits_in c.of-kind.result c.loop-kind.right.now c.split_at-in-loop-kind.result.0.now c.piece_length-in-loop-kind.result c.piece_length-in-loop-kind.ensures.value c.split_at-in-loop-kind.ensures.front

pub returns-in_default : goal.returns-in_default
returns-in_default c =
    let k = same_kind c.of.result c.of-in-loop-kind.result c.loop-kind.left.now c.loop-kind.right.now c.rank.result c.rank-in-loop-kind.result c.of.ensures c.of-in-loop-kind.ensures c.rank.ensures c.rank-in-loop-kind.ensures c.if-rank.true in
    let rest = weights_cmp (weights_of c.split_at.result.1.now) (weights_of c.split_at-in-loop-kind.result.1.now) in
    sym (then_first c.compare_pieces.result rest c.in_default.not-Equal)
    ∙ ap (λ o. ordering_then o rest) c.compare_pieces.ensures
    ∙ sym (stepped c.loop-kind.left.now c.loop-kind.right.now c.split_at.result.0.now c.split_at.result.1.now c.split_at-in-loop-kind.result.0.now c.split_at-in-loop-kind.result.1.now
    c.piece_length.result c.piece_length-in-loop-kind.result c.of-kind.result (is_there c.loop-kind.left.now c.is_empty.result c.is_empty.ensures c.loop-kind-test.true) c.of-kind.ensures (c.of-kind.ensures ∙ k)
    c.piece_length.ensures.value c.piece_length-in-loop-kind.ensures.value c.split_at.ensures.front c.split_at.ensures.back c.split_at-in-loop-kind.ensures.front c.split_at-in-loop-kind.ensures.back)
    ∙ c.loop-kind.invariant

pub loop-kind-preserved : goal.loop-kind-preserved
loop-kind-preserved c =
    let k = same_kind c.of.result c.of-in-loop-kind.result c.loop-kind.left.now c.loop-kind.right.now c.rank.result c.rank-in-loop-kind.result c.of.ensures c.of-in-loop-kind.ensures c.rank.ensures c.rank-in-loop-kind.ensures c.if-rank.true in
    let rest = weights_cmp (weights_of c.split_at.result.1.now) (weights_of c.split_at-in-loop-kind.result.1.now) in
    ap (λ o. ordering_then o rest) c.in-Equal.ensures
    ∙ sym (stepped c.loop-kind.left.now c.loop-kind.right.now c.split_at.result.0.now c.split_at.result.1.now c.split_at-in-loop-kind.result.0.now c.split_at-in-loop-kind.result.1.now
    c.piece_length.result c.piece_length-in-loop-kind.result c.of-kind.result (is_there c.loop-kind.left.now c.is_empty.result c.is_empty.ensures c.loop-kind-test.true) c.of-kind.ensures (c.of-kind.ensures ∙ k)
    c.piece_length.ensures.value c.piece_length-in-loop-kind.ensures.value c.split_at.ensures.front c.split_at.ensures.back c.split_at-in-loop-kind.ensures.front c.split_at-in-loop-kind.ensures.back)
    ∙ c.loop-kind.invariant

pub returns : goal.returns
returns c =
    let left = c.loop-kind.left.now in
    let right = c.loop-kind.right.now in
    let ends : c.cmp.result ≡ nat_cmp (rank_of (kind_of left)) (rank_of (kind_of right)) =
    c.cmp.ensures ∙ ap (λ n. nat_cmp n c.rank-3.result) (c.rank-2.ensures ∙ ap rank_of c.of-2.ensures) ∙ ap (nat_cmp (rank_of (kind_of left))) (c.rank-3.ensures ∙ ap rank_of c.of-3.ensures) in
    ends ∙ sym (elim c.loop-kind-test.branch [
      | then-loop-kind-test+else-rank w ↦
          compare_differ left right (ranks_apart w.of.result w.of-in-loop-kind.result left right w.rank.result w.rank-in-loop-kind.result w.of.ensures w.of-in-loop-kind.ensures w.rank.ensures w.rank-in-loop-kind.ensures w.if-rank.false)
      | else-loop-kind-test w ↦ compare_ended left right (is_gone left c.is_empty.result c.is_empty.ensures w.loop-kind-test.false)
    ]) ∙ c.loop-kind.invariant
