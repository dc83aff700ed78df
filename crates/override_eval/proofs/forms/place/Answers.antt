use Rattle.std.proofs.Common.{◌≡◌, ◌-◌, ap, sym, ◌∙◌, subst, arith, false, drop, bytes_eq}
use Rattle.meta_model.specs.Text.{is_in}
use Rattle.override_eval.proofs.Places.{place_at, place_none}
use Rattle.override_eval.proofs.forms.place.Goals as goal

pub returns-then-eq : goal.returns-then-eq
returns-then-eq c =
    place_at c.args.active.now c.args.part.now c.loop-left.left (c.loop-left.left - 1) c.index-active-left.result (omega arith) (omega arith) c.index-active-left.is
    (ap (bytes_eq c.args.part.now) (sym c.as_str.ensures) ∙ sym c.eq.ensures ∙ c.if-eq.true) c.loop-left.invariant.behind

pub returns : goal.returns
returns c =
    let none : c.loop-left.left ≡ 0 = omega arith in
    place_none c.args.active.now c.args.part.now (subst (λ n. is_in c.args.part.now (drop n c.args.active.now) ≡ false) none c.loop-left.invariant.behind)
