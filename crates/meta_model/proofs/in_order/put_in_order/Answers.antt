use Rattle.std.proofs.Common.{◌∙◌, ap, sym, subst, arith, ◌≤◌, ◌<◌, length, bytes_eq}
use Rattle.meta_model.specs.Text.{into_order, is_before}
use Rattle.meta_model.proofs.Placing.{order_same, order_here, order_last, same_at}
use Rattle.meta_model.proofs.in_order.put_in_order.Goals as goal

pub returns-then-eq : goal.returns-then-eq
returns-then-eq c =
    order_same c.loop-place.texts.items c.loop-place.place c.index.result.now c.loop-place.text c.index.ensures (subst (λ n. c.loop-place.place < n) (c.len.ensures ∙ c.loop-place.texts.ok.0) c.loop-place-test.true)
    (ap (λ x. bytes_eq x c.loop-place.text) (sym c.as_str.ensures) ∙ ap (bytes_eq c.as_str.result.now) (sym c.as_str-in-loop-place.ensures) ∙ sym c.eq.ensures ∙ c.if-eq.true)
    c.loop-place.invariant.3
    ∙ ap (λ l. into_order l c.loop-place.text) c.loop-place.invariant.0 ∙ ap (into_order c.args.texts.now.items) c.loop-place.invariant.1

pub returns-then-comes_before : goal.returns-then-comes_before
returns-then-comes_before c =
    c.in_ok-insert.ensures.items
    ∙ order_here c.loop-place.texts.items c.loop-place.place c.index.result.now c.loop-place.text c.index.ensures (subst (λ n. c.loop-place.place < n) (c.len.ensures ∙ c.loop-place.texts.ok.0) c.loop-place-test.true)
    (ap (λ x. bytes_eq x c.loop-place.text) (sym c.as_str.ensures) ∙ ap (bytes_eq c.as_str.result.now) (sym c.as_str-in-loop-place.ensures) ∙ sym c.eq.ensures ∙ c.if-eq.false)
    (ap (is_before c.loop-place.text) (same_at c.loop-place.texts.items c.loop-place.place c.index.result.now c.index-in-loop-place.result.now c.index.ensures c.index-in-loop-place.ensures (subst (λ n. c.loop-place.place < n) (c.len.ensures ∙ c.loop-place.texts.ok.0) c.loop-place-test.true) ∙ sym c.as_str-in-loop-place-3.ensures)
    ∙ ap (λ n. is_before n c.as_str-in-loop-place-3.result.now) (sym c.as_str-in-loop-place-2.ensures) ∙ sym c.comes_before.ensures ∙ c.if-comes_before.true)
    c.loop-place.invariant.3
    ∙ ap (λ l. into_order l c.loop-place.text) c.loop-place.invariant.0 ∙ ap (into_order c.args.texts.now.items) c.loop-place.invariant.1

pub returns : goal.returns
returns c =
    let past : length c.loop-place.texts.items ≤ c.loop-place.place = omega (arith, c.loop-place-test.false) in
    c.in_ok-push.ensures.items ∙ order_last c.loop-place.texts.items c.loop-place.place c.loop-place.text past c.loop-place.invariant.3
    ∙ ap (λ l. into_order l c.loop-place.text) c.loop-place.invariant.0 ∙ ap (into_order c.args.texts.now.items) c.loop-place.invariant.1
