use Rattle.std.proofs.Common.{◌∙◌, ◌<◌, ap, arith, sym, subst, length}
use Rattle.std.proofs.lemmas.Grind.{common_steps}
use Rattle.std.specs.List.{slice_index, list_any}
use Rattle.std.proofs.lemmas.Str.{IsCharBoundary-after_ascii}
use Rattle.meta_model.specs.Text.{is_quote}
use Rattle.meta_model.proofs.FormReading.{some_length, quote_ascii, literal_is}
use Rattle.meta_model.proofs.form.literal.Goals as goal

pub range_from-requires : goal.range_from-requires
range_from-requires c =
    let some = some_length (length c.args.text.now) (sym c.is_empty.ensures ∙ c.if-is_empty.false) in
    let quote = sym c.is_quote.ensures ∙ c.if-not-is_quote.false in
    let low : slice_index c.args.text.now 0 < 128 = subst (λ s. slice_index s 0 < 128) c.as_bytes.ensures.value (quote_ascii (slice_index c.as_bytes.result.now 0) quote) in
    λ _. IsCharBoundary-after_ascii c.args.text.now 0 c.utf8.text some low

pub returns : goal.returns
returns c =
    let some = some_length (length c.args.text.now) (sym c.is_empty.ensures ∙ c.if-is_empty.false) in
    let quote = sym c.is_quote.ensures ∙ c.if-not-is_quote.false in
    literal_is c.args.text.now c.range_from.result.now (slice_index c.as_bytes.result.now 0) (c.in_ok-inside.inside.now, c.in_ok-inside.rest.now) some
    (ap (λ s. slice_index s 0) c.as_bytes.ensures.value) quote (grind (arith, common_steps, c.range_from.ensures.value)) (c.in_ok-inside.ensures)
    (ap (list_any is_quote) (sym c.as_bytes-2.ensures.value) ∙ sym c.holds_quote.ensures ∙ c.if-holds_quote.false)
