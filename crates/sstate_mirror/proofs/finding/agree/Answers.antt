use Rattle.std.proofs.Common.{◌≡◌, ◌+◌, ◌<◌, ◌≤◌, ap, sym, subst, arith, inl, inr, List, length, take}
use Rattle.std.specs.Prelude.{Contains}
use Rattle.std.proofs.lemmas.List.{take_all}
use Rattle.record_move.specs.declared.records.MovedRecord.{MovedRecord}
use Rattle.store_upgrade.proofs.Copied.{at_itself, at_place}
use Rattle.sstate_mirror.specs.Refusals.{AgreeAt}
use Rattle.sstate_mirror.proofs.Copied.{last_of}
use Rattle.sstate_mirror.proofs.finding.agree.Goals as goal

pub loop-one-preserved : goal.loop-one-preserved
loop-one-preserved c m has =
    let is : c.deref-one-items.result.now ≡ c.args.moved.now.records.items = c.deref-one-items.ensures.value in
    let lt : c.loop-one.one-index < length c.deref-one-items.result.now = omega arith in
    let step : Contains (take (c.loop-one.one-index + 1) c.deref-one-items.result.now) m = subst (λ (l : List MovedRecord). Contains (take (c.loop-one.one-index + 1) l) m) (sym is) has in
    elim (last_of c.deref-one-items.result.now c.loop-one.one-index (at_place c.deref-one-items.result.now c.loop-one.one-index) m lt (at_itself c.deref-one-items.result.now c.loop-one.one-index lt) step) [
      | inl earlier ↦ c.loop-one.invariant m (subst (λ (l : List MovedRecord). Contains (take c.loop-one.one-index l) m) is earlier)
      | inr same ↦ subst (λ (x : MovedRecord). AgreeAt c.args.theirs.now c.args.moved.now.rows x) same c.in_ok-agree_at.ensures.ok
    ]

pub returns-clause-ok : goal.returns-clause-ok
returns-clause-ok c m has =
    let e = ap (length {A = MovedRecord}) c.deref-one-items.ensures.value in
    let past : length c.args.moved.now.records.items ≤ c.loop-one.one-index = omega (arith, e) in
    c.loop-one.invariant m (subst (λ (l : List MovedRecord). Contains l m) (sym (take_all c.loop-one.one-index c.args.moved.now.records.items past)) has)
