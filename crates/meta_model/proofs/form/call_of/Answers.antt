use Rattle.std.proofs.Common.{codes, nat_eq, refl, sym, ◌∙◌, ap}
use Rattle.std.specs.List.{starts_with}
use Rattle.meta_model.proofs.Prefixes.{prefix-cut}
use Rattle.meta_model.proofs.form.call_of.Goals as goal

pub range_from-requires : goal.range_from-requires
unfolding lib.Utf8.encode
range_from-requires c = λ _.
    prefix-cut c.args.inside.now (codes "@bb.utils.contains(") (ap (λ s. starts_with nat_eq s (codes "@bb.utils.contains(")) (sym c.as_bytes.ensures.value) ∙ sym c.starts_with.ensures.value ∙ c.if-starts_with.true) (codes "@bb.utils.contains(", (refl, refl)) c.utf8.inside

pub range_from-requires-then-starts_with-2 : goal.range_from-requires-then-starts_with-2
unfolding lib.Utf8.encode
range_from-requires-then-starts_with-2 c = λ _.
    prefix-cut c.args.inside.now (codes "@bb.utils.filter(") (ap (λ s. starts_with nat_eq s (codes "@bb.utils.filter(")) (sym c.as_bytes-2.ensures.value) ∙ sym c.starts_with-2.ensures.value ∙ c.if-starts_with-2.true) (codes "@bb.utils.filter(", (refl, refl)) c.utf8.inside
