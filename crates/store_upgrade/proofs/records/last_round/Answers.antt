use Rattle.std.proofs.Common.{sym, subst, ap, arith, inl, inr, List}
use Rattle.std.specs.Prelude.{Contains}
use Rattle.std.proofs.lemmas.List.{take_all}
use Rattle.record_move.specs.declared.records.AddedRecord.{AddedRecord}
use Rattle.store_upgrade.proofs.Keyed.{last_of}
use Rattle.store_upgrade.proofs.records.last_round.Goals as goal

pub loop-one-preserved : goal.loop-one-preserved
loop-one-preserved c a has =
    let was = c.later-last.ensures.first in
    let now = c.later-last.ensures.second in
    elim (last_of c.args.added.now c.loop-one.one-index c.one-item.result a c.loop-one-test.true c.one-item.is has) [
      | inl earlier ↦ let le = c.loop-one.invariant a earlier in omega (arith, was, le)
      | inr same ↦ let e = ap (λ (x : AddedRecord). x.round) same in omega (arith, now, e)
    ]

pub returns : goal.returns
returns c a has = c.loop-one.invariant a (subst (λ (l : List AddedRecord). Contains l a) (sym (take_all c.loop-one.one-index c.args.added.now c.loop-one-test.false)) has)
