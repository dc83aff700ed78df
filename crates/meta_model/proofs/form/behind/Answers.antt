use Rattle.std.proofs.Common.{◌∙◌, ◌<◌, arith, sym, subst, length}
use Rattle.std.specs.List.{slice_index}
use Rattle.std.proofs.lemmas.Str.{IsCharBoundary-after_ascii}
use Rattle.meta_model.proofs.FormReading.{some_length}
use Rattle.meta_model.proofs.form.behind.Goals as goal

pub range_from-requires : goal.range_from-requires
range_from-requires c =
    let some = some_length (length c.skipped-rest.result.now) (sym c.is_empty.ensures ∙ c.if-is_empty.false) in
    let low : slice_index c.skipped-rest.result.now 0 < 128 = subst (λ s. slice_index s 0 < 128) c.as_bytes.ensures.value (subst (λ n. n < 128) (sym c.if-as_bytes-sign.false) c.requires) in
    λ _. IsCharBoundary-after_ascii c.skipped-rest.result.now 0 c.skipped-rest.utf8 some low
