use Rattle.std.proofs.Common.{◌≡◌, ◌∙◌, ap, sym, subst, arith, ◌<◌, ◌+◌, [], ◌++◌, length, take, drop, position, reverse}
use Rattle.std.proofs.lemmas.Grind.{common_steps}
use Rattle.std.proofs.lemmas.Str.{IsCharBoundary-after_ascii}
use Rattle.std.proofs.lemmas.List.Quantifiers.{position-Some}
use Rattle.std.proofs.lemmas.Result.{IfOk-weaker}
use Rattle.std.specs.List.{slice_index}
use Rattle.load_model.specs.Facts.{outside_brackets, without_brackets}
use Rattle.recipe_facts.specs.Brackets.{is_bracket, open_texts, with_open}
use Rattle.recipe_facts.proofs.Bracketed.{texts_begin, texts_go_on, texts_end, is_one}
use Rattle.recipe_facts.proofs.brackets.without_brackets.Goals as goal

pub loop-end-init : goal.loop-end-init
loop-end-init c = record {
  text = c.utf8.text;
  texts = ap (λ ts. with_open (reverse ts) c.new-last.result (outside_brackets c.args.text.now)) c.new-kept.ensures.items ∙ ap (λ l. with_open [] l (outside_brackets c.args.text.now)) c.new-last.ensures ∙ texts_begin c.args.text.now;
}

pub behind_bracket-requires : goal.behind_bracket-requires
behind_bracket-requires c =
    let p = position-Some is_bracket c.as_bytes.result.now c.in-Some.end 0 (sym c.in-Some.ensures.first) in
    is_one _ (ap (λ bs. is_bracket (slice_index bs c.in-Some.end)) (c.as_bytes-in-Some.ensures.value ∙ sym c.as_bytes.ensures.value) ∙ p.1)

pub range_from-rest-requires : goal.range_from-rest-requires
range_from-rest-requires c = λ _.
    IsCharBoundary-after_ascii c.loop-end.rest.now c.in-Some.end c.loop-end.invariant.text
    (subst (λ s. c.in-Some.end < length s) c.as_bytes.ensures.value c.in-Some.ensures.within)
    (subst (λ s. slice_index s c.in-Some.end < 128) c.as_bytes.ensures.value c.in-Some.ensures.stands)

pub loop-end-preserved : goal.loop-end-preserved
loop-end-preserved c =
    let piece : c.range.result.now ≡ take c.in-Some.end c.loop-end.rest.now = grind (arith, common_steps, c.range.ensures.value) in
    let after : c.range_from-rest.result.now ≡ drop (c.in-Some.end + 1) c.loop-end.rest.now = grind (arith, common_steps, c.range_from-rest.ensures.value) in
    record {
      text = c.range_from-rest.utf8;
      texts = texts_go_on c.loop-end.rest.now c.range_from-rest.result.now c.loop-end.last c.push_str.new.self c.in_ok-last.last (reverse c.loop-end.kept.items) (reverse c.behind_bracket.new.kept.items) c.in-Some.end _
          (c.in-Some.ensures.first ∙ ap (position is_bracket) c.as_bytes.ensures.value) (c.in_ok-push_str.ensures.ok ∙ ap (λ p. c.loop-end.last ++ p) piece) after (ap (λ bs. slice_index bs c.in-Some.end) c.as_bytes-in-Some.ensures.value) c.in_ok-last.ensures ∙ c.loop-end.invariant.texts;
    }

pub returns : goal.returns
returns c =
    IfOk-weaker c.all_texts.result _ (λ made. made ≡ without_brackets c.args.text.now)
    (λ made e. e ∙ ap (λ ts. open_texts (reverse ts) c.as_str.result.now) c.as_slice.ensures.value ∙ ap (open_texts (reverse c.loop-end.kept.items)) (c.as_str.ensures ∙ c.in_ok-push_str-2.ensures.ok)
    ∙ texts_end c.loop-end.rest.now c.loop-end.last (reverse c.loop-end.kept.items) (ap (position is_bracket) (sym c.as_bytes.ensures.value) ∙ sym c.in_default.ensures.first) ∙ c.loop-end.invariant.texts)
    c.all_texts.ensures
