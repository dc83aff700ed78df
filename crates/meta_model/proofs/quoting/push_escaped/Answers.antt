use Rattle.std.proofs.Common.{◌≡◌, ◌∙◌, ap, sym, subst, arith, ◌<◌, ◌+◌, length, take, drop, position}
use Rattle.std.proofs.lemmas.Grind.{common_steps}
use Rattle.std.proofs.lemmas.List.Quantifiers.{position-Some}
use Rattle.std.proofs.lemmas.Str.{IsCharBoundary-after_ascii}
use Rattle.std.specs.List.{slice_index, slice_index_or}
use Rattle.meta_model.specs.Quoting.{is_special, escape}
use Rattle.meta_model.proofs.Escapes.{escaped_step, escaped_last}
use Rattle.meta_model.proofs.quoting.push_escaped.Goals as goal

pub escape-requires : goal.escape-requires
escape-requires c =
    let first : position (is_special c.args.quoting) c.loop-place.rest.now ≡ _ = ap (position (is_special c.args.quoting)) (sym c.as_bytes.ensures.value) ∙ sym c.in-Some.ensures.first in
    ap (λ l. is_special c.args.quoting (slice_index_or l c.in-Some.place 0)) c.as_bytes-in-Some.ensures.value
    ∙ (position-Some (is_special c.args.quoting) c.loop-place.rest.now c.in-Some.place 0 first).1

pub range_from-rest-requires : goal.range_from-rest-requires
range_from-rest-requires c = λ _.
    IsCharBoundary-after_ascii c.loop-place.rest.now c.in-Some.place c.loop-place.invariant.0
    (subst (λ s. c.in-Some.place < length s) c.as_bytes.ensures.value c.in-Some.ensures.within)
    (subst (λ s. slice_index s c.in-Some.place < 128) c.as_bytes.ensures.value c.in-Some.ensures.stands)

pub loop-place-preserved : goal.loop-place-preserved
loop-place-preserved c =
    let piece : c.range.result.now ≡ take c.in-Some.place c.loop-place.rest.now = grind (arith, common_steps, c.range.ensures.value) in
    let after : c.range_from-rest.result.now ≡ drop (c.in-Some.place + 1) c.loop-place.rest.now = grind (arith, common_steps, c.range_from-rest.ensures.value) in (
      c.range_from-rest.utf8,
      escaped_step c.args.quoting c.loop-place.rest.now c.range.result.now c.escape.result.now c.range_from-rest.result.now c.loop-place.out c.push_str.new.self c.push_str-in-Some.new.self c.in-Some.place
          (c.in-Some.ensures.first ∙ ap (position (is_special c.args.quoting)) c.as_bytes.ensures.value) piece c.in_ok-push_str.ensures.ok
          (c.escape.ensures ∙ ap (λ l. escape c.args.quoting (slice_index_or l c.in-Some.place 0)) c.as_bytes-in-Some.ensures.value)
          c.in_ok-push_str-2.ensures.ok after
          ∙ c.loop-place.invariant.1,
    )

pub returns : goal.returns
returns c =
    escaped_last c.args.quoting c.loop-place.rest.now c.loop-place.out c.args.out.now c.push_str-2.new.self c.args.value.now
    (c.in_default.ensures.first ∙ ap (position (is_special c.args.quoting)) c.as_bytes.ensures.value) c.loop-place.invariant.1 c.in_ok-push_str-3.ensures.ok
