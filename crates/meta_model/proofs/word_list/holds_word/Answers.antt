use Rattle.std.proofs.Common.{◌≡◌, ◌∙◌, ap, refl, sym, subst, arith, ◌<◌, ◌+◌, ◌||◌, [], ◌∷◌, length, take, drop, position, true}
use Rattle.std.proofs.lemmas.Grind.{common_steps}
use Rattle.std.proofs.lemmas.Str.{IsCharBoundary-after_ascii}
use Rattle.std.specs.List.{slice_index}
use Rattle.meta_model.specs.Text.{is_in, is_white, non_empty, words}
use Rattle.meta_model.proofs.White.{words_last}
use Rattle.meta_model.proofs.FormReading.{piece_step}
use Rattle.meta_model.proofs.word_list.holds_word.Goals as goal

pub loop-end-init : goal.loop-end-init
loop-end-init c = (c.utf8.text, refl)

pub returns-then-is_piece : goal.returns-then-is_piece
returns-then-is_piece c =
    let piece : c.range.result.now ≡ take c.in-Some.end c.loop-end.rest.now = grind (arith, common_steps, c.range.ensures.value) in
    let first = c.in-Some.ensures.first ∙ ap (position is_white) c.as_bytes.ensures.value in
    let step = piece_step c.args.word.now c.loop-end.rest.now c.range.result.now (drop (c.in-Some.end + 1) c.loop-end.rest.now) c.in-Some.end first piece refl in
    let there : is_in c.args.word.now (non_empty (c.range.result.now ∷ [])) ≡ true = sym c.is_piece.ensures ∙ c.if-is_piece.true in
    sym (c.loop-end.invariant.1 ∙ step ∙ ap (λ b. b || is_in c.args.word.now (words (drop (c.in-Some.end + 1) c.loop-end.rest.now))) there)

pub range_from-rest-requires : goal.range_from-rest-requires
range_from-rest-requires c = λ _.
    IsCharBoundary-after_ascii c.loop-end.rest.now c.in-Some.end c.loop-end.invariant.0
    (subst (λ s. c.in-Some.end < length s) c.as_bytes.ensures.value c.in-Some.ensures.within)
    (subst (λ s. slice_index s c.in-Some.end < 128) c.as_bytes.ensures.value c.in-Some.ensures.stands)

pub loop-end-preserved : goal.loop-end-preserved
loop-end-preserved c =
    let piece : c.range.result.now ≡ take c.in-Some.end c.loop-end.rest.now = grind (arith, common_steps, c.range.ensures.value) in
    let after : c.range_from-rest.result.now ≡ drop (c.in-Some.end + 1) c.loop-end.rest.now = grind (arith, common_steps, c.range_from-rest.ensures.value) in
    let first = c.in-Some.ensures.first ∙ ap (position is_white) c.as_bytes.ensures.value in
    let step = piece_step c.args.word.now c.loop-end.rest.now c.range.result.now c.range_from-rest.result.now c.in-Some.end first piece after in (
      c.range_from-rest.utf8,
      c.loop-end.invariant.1 ∙ step ∙ ap (λ b. b || is_in c.args.word.now (words c.range_from-rest.result.now)) (sym c.is_piece.ensures ∙ c.if-is_piece.false),
    )

pub returns : goal.returns
returns c = c.is_piece-2.ensures ∙ ap (is_in c.args.word.now) (sym (words_last c.loop-end.rest.now (ap (position is_white) (sym c.as_bytes.ensures.value) ∙ sym c.in_default.ensures.first))) ∙ sym c.loop-end.invariant.1
