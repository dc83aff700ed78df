use Rattle.std.proofs.Common.{◌≡◌, ◌+◌, ◌-◌, ap, subst, arith, not, false, nat_eq}
use Rattle.std.specs.Str.{IsCharBoundary}
use Rattle.std.proofs.lemmas.List.Sums.{suffix_len_is}
use Rattle.std.proofs.lemmas.Str.{IsCharBoundary-after_ascii, IsCharBoundary-start}
use Rattle.load_model.specs.Paths.{is_slash}
use Rattle.path_words.proofs.Slashes.{no_slash}
use Rattle.path_words.proofs.cuts.last_start.Goals as goal

pub returns-then-text-start-eq47-clause-place : goal.returns-then-text-start-eq47-clause-place
returns-then-text-start-eq47-clause-place c =
    let text = c.args.text.now in
    omega (arith, suffix_len_is (λ b. not (is_slash b)) text c.loop-start.start 0 (omega arith) c.loop-start.invariant.none (λ lt. ap (λ b. not (nat_eq b 47)) c.if-text-start-eq47.true))

pub returns-then-text-start-eq47-clause-cut : goal.returns-then-text-start-eq47-clause-cut
returns-then-text-start-eq47-clause-cut c = λ u.
    let text = c.args.text.now in
    let same : c.loop-start.start - 1 + 1 ≡ c.loop-start.start = omega arith in
    subst (IsCharBoundary text) same (IsCharBoundary-after_ascii text (c.loop-start.start - 1) u (omega arith) (omega (arith, c.if-text-start-eq47.true)))

pub returns-clause-place : goal.returns-clause-place
returns-clause-place c =
    let text = c.args.text.now in
    let h = c.loop-start-test.false in
    omega (arith, suffix_len_is (λ b. not (is_slash b)) text 0 0 (omega arith) (λ k z lt. c.loop-start.invariant.none k (omega arith) lt) (λ z. absurd (omega arith)))

pub returns-clause-none : goal.returns-clause-none
returns-clause-none c = λ e. no_slash c.args.text.now c.loop-start.start c.loop-start.invariant.none (omega arith)

pub returns-clause-cut : goal.returns-clause-cut
returns-clause-cut c = λ u. IsCharBoundary-start c.args.text.now u
