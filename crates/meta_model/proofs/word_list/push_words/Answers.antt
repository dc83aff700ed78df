use Rattle.std.proofs.Common.{◌≡◌, ◌∙◌, ap, sym, subst, arith, ◌<◌, ◌+◌, length, take, drop, position, ◌++◌}
use Rattle.std.proofs.lemmas.Grind.{common_steps}
use Rattle.std.proofs.lemmas.Result.{on_ok_weaker}
use Rattle.std.proofs.lemmas.Str.{IsCharBoundary-after_ascii}
use Rattle.std.specs.List.{slice_index}
use Rattle.meta_model.specs.Text.{is_white}
use Rattle.meta_model.proofs.White.{push_step, words_last}
use Rattle.meta_model.proofs.word_list.push_words.Goals as goal

pub range_from-rest-requires : goal.range_from-rest-requires
range_from-rest-requires c = λ _.
    IsCharBoundary-after_ascii c.loop-end.rest.now c.in-Some.end c.loop-end.invariant.0
    (subst (λ s. c.in-Some.end < length s) c.as_bytes.ensures.value c.in-Some.ensures.within)
    (subst (λ s. slice_index s c.in-Some.end < 128) c.as_bytes.ensures.value c.in-Some.ensures.stands)

pub loop-end-preserved : goal.loop-end-preserved
loop-end-preserved c =
    let piece : c.range.result.now ≡ take c.in-Some.end c.loop-end.rest.now = grind (arith, common_steps, c.range.ensures.value) in
    let after : c.range_from-rest.result.now ≡ drop (c.in-Some.end + 1) c.loop-end.rest.now = grind (arith, common_steps, c.range_from-rest.ensures.value) in (
      c.range_from-rest.utf8,
      push_step c.loop-end.rest.now c.range.result.now c.range_from-rest.result.now c.loop-end.list c.push_piece.new.list c.in-Some.end
          (c.in-Some.ensures.first ∙ ap (position is_white) c.as_bytes.ensures.value) piece c.in_ok-push_piece.ensures after ∙ c.loop-end.invariant.1,
    )

pub returns : goal.returns
returns c =
    on_ok_weaker c.push_piece-2.result (λ e. e ∙ ap (λ l. c.loop-end.list ++ l) (sym (words_last c.loop-end.rest.now (ap (position is_white) (sym c.as_bytes.ensures.value) ∙ sym c.in_default.ensures.first))) ∙ c.loop-end.invariant.1) c.push_piece-2.ensures
