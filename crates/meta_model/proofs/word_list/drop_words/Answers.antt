use Rattle.std.proofs.Common.{◌≡◌, ◌∙◌, ap, sym, subst, arith, ◌<◌, ◌+◌, ◌-◌, length, take, drop, position, if◌then◌else◌, [], ◌++◌}
use Rattle.std.proofs.lemmas.Grind.{common_steps}
use Rattle.std.proofs.lemmas.Str.{IsCharBoundary-after_ascii}
use Rattle.std.specs.List.{slice_index}
use Rattle.meta_model.specs.Text.{is_white, is_in}
use Rattle.meta_model.proofs.White.{drop_step, drop_last}
use Rattle.meta_model.proofs.word_list.drop_words.Goals as goal

pub range-requires-in-Some-clause-end_boundary : goal.range-requires-in-Some-clause-end_boundary
range-requires-in-Some-clause-end_boundary c =
    IsCharBoundary-after_ascii c.loop-end.rest.now c.in-Some.end c.loop-end.invariant.0
    (subst (λ s. c.in-Some.end < length s) c.as_bytes.ensures.value c.in-Some.ensures.within)
    (subst (λ s. slice_index s c.in-Some.end < 128) c.as_bytes.ensures.value c.in-Some.ensures.stands)

pub range_from-rest-requires : goal.range_from-rest-requires
range_from-rest-requires c = λ _.
    IsCharBoundary-after_ascii c.loop-end.rest.now c.in-Some.end c.loop-end.invariant.0
    (subst (λ s. c.in-Some.end < length s) c.as_bytes.ensures.value c.in-Some.ensures.within)
    (subst (λ s. slice_index s c.in-Some.end < 128) c.as_bytes.ensures.value c.in-Some.ensures.stands)

pub loop-end-preserved : goal.loop-end-preserved
loop-end-preserved c =
    let piece : c.range.result.now ≡ take c.in-Some.end c.loop-end.rest.now = grind (arith, common_steps, c.range.ensures.value) in
    let sign : c.range-in-Some.result.now ≡ take (c.in-Some.end + 1 - c.in-Some.end) (drop c.in-Some.end c.loop-end.rest.now) = grind (arith, common_steps, c.range-in-Some.ensures.value) in
    let after : c.range_from-rest.result.now ≡ drop (c.in-Some.end + 1) c.loop-end.rest.now = grind (arith, common_steps, c.range_from-rest.ensures.value) in (
      c.range_from-rest.utf8,
      drop_step c.loop-end.rest.now c.loop-end.made c.kept.result.now c.push_str.new.self c.range-in-Some.result.now c.push_str-in-Some.new.self c.range_from-rest.result.now c.args.words.now c.in-Some.end
          (c.in-Some.ensures.first ∙ ap (position is_white) c.as_bytes.ensures.value)
          (subst (λ s. c.in-Some.end < length s) c.as_bytes.ensures.value c.in-Some.ensures.within)
          (c.kept.ensures ∙ ap (λ p. if is_in p c.args.words.now then [] else p) piece)
          c.in_ok-push_str.ensures.ok sign c.in_ok-push_str-2.ensures.ok after ∙ c.loop-end.invariant.1,
    )

pub returns : goal.returns
returns c =
    c.in_ok-push_str-3.ensures.ok ∙ ap (λ k. c.loop-end.made ++ k) (c.kept-2.ensures ∙ sym (drop_last c.loop-end.rest.now c.args.words.now (ap (position is_white) (sym c.as_bytes.ensures.value) ∙ sym c.in_default.ensures.first)))
    ∙ c.loop-end.invariant.1
