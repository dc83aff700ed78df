use Rattle.std.proofs.Common.{◌∙◌, ◌<◌, arith, sym, subst, length}
use Rattle.std.specs.List.{slice_index}
use Rattle.std.proofs.lemmas.Str.{IsCharBoundary-after_ascii}
use Rattle.meta_model.proofs.FormReading.{some_length}
use Rattle.var_deps.proofs.asked.asked_by.Goals as goal

pub range_from-requires : goal.range_from-requires
range_from-requires c =
    let name = c.args.name.now in
    let some = some_length (length name) (sym c.is_empty.ensures ∙ c.if-is_empty.false) in
    let at : 64 < 128 = omega arith in
    let low : slice_index name 0 < 128 = subst (λ s. slice_index s 0 < 128) c.as_bytes.ensures.value (subst (λ n. n < 128) (sym c.if-as_bytes-ne64.false) at) in
    λ _. IsCharBoundary-after_ascii name 0 c.utf8.name some low
