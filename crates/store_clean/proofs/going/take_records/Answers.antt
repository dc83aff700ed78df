use Rattle.std.proofs.Common.{◌≡◌, ◌∙◌, ◌-◌, ◌<◌, [], arith, length, refl, subst, sym, List, ℕ}
use Rattle.std.specs.Prelude.{All}
use Rattle.std.proofs.lemmas.List.{get_or_default}
use Rattle.outside_traits.specs.Passes.{Passes}
use Rattle.store_clean.specs.Steps.{AreInRounds, IsRecordOf, TakesAway, round_at}
use Rattle.store_clean.proofs.Down.{above_gone, below_gone, down_at, down_first, down_next, in_rounds, round_each, rounds_start}
use Rattle.store_clean.proofs.Runs.{free_kept, passes_on, passes_start}
use Rattle.store_clean.proofs.going.take_records.Goals as goal

pub loop-next-init : goal.loop-next-init
loop-next-init g c = record {
  faults = refl;
  within = omega arith;
  run = λ told. passes_start (g.D.Disk.story c.args.disk.now) (AreInRounds c.args.nodes.now c.args.rounds.now (g.D.Disk.story c.args.disk.now).held) (g.met.D.Disk.sound c.args.disk.now told) (c.requires.durable told) (rounds_start c.args.nodes.now c.args.rounds.now (g.D.Disk.story c.args.disk.now).held);
  durable = c.requires.durable;
  free = c.requires.free;
  down = λ told. down_first c.args.nodes.now c.args.rounds.now (g.D.Disk.story c.args.disk.now).held (g.D.Disk.story c.args.disk.now).held refl;
}

pub take_round-requires-clause-within : goal.take_round-requires-clause-within
take_round-requires-clause-within g c =
    let rounds = c.args.rounds.now in
    let n = c.loop-next.next - 1 in
    let lt : n < length rounds = (let w = c.loop-next.invariant.within in let t = c.loop-next-test.true in omega (arith, w, t)) in
    let here : c.as_slice.result.now ≡ round_at rounds n = c.as_slice.ensures ∙ c.index-rounds-next.is ∙ get_or_default rounds n c.index-rounds-next.result [] lt in
    subst (All (λ p. p < length c.args.nodes.now)) (sym here) (round_each (All (λ p. p < length c.args.nodes.now)) rounds n c.requires.within lt)

pub loop-next-preserved : goal.loop-next-preserved
loop-next-preserved g c =
    let nodes = c.args.nodes.now in
    let rounds = c.args.rounds.now in
    let n = c.loop-next.next - 1 in
    let held = (g.D.Disk.story c.args.disk.now).held in
    let now = (g.D.Disk.story c.loop-next.disk).held in
    let new = (g.D.Disk.story c.take_round.new.disk).held in
    let lt : n < length rounds = (let w = c.loop-next.invariant.within in let t = c.loop-next-test.true in omega (arith, w, t)) in
    let here : c.as_slice.result.now ≡ round_at rounds n = c.as_slice.ensures ∙ c.index-rounds-next.is ∙ get_or_default rounds n c.index-rounds-next.result [] lt in
    let takes : g.D.Disk.tells → Passes (g.D.Disk.story c.loop-next.disk) (g.D.Disk.story c.take_round.new.disk) (TakesAway (IsRecordOf nodes (round_at rounds n))) =
    λ told. subst (λ (l : List ℕ). Passes (g.D.Disk.story c.loop-next.disk) (g.D.Disk.story c.take_round.new.disk) (TakesAway (IsRecordOf nodes l))) here (c.take_round.ensures.takes told) in
    record {
      faults = c.in_ok-take_round.ensures.cause.stayed ∙ c.loop-next.invariant.faults;
      within = (let w = c.loop-next.invariant.within in omega (arith, w));
      run = λ told. passes_on (AreInRounds nodes rounds held) (AreInRounds nodes rounds held) (g.met.D.Disk.sound c.loop-next.disk told) (c.loop-next.invariant.durable told) (c.loop-next.invariant.run told) (takes told) (λ j p. p)
          (λ k t. in_rounds nodes rounds n held now k (down_at nodes rounds c.loop-next.next held now c.loop-next-test.true (c.loop-next.invariant.down told)) t);
      durable = c.in_ok-take_round.ensures.durable;
      free = λ told. free_kept (IsRecordOf nodes (round_at rounds n)) now new (takes told).held above_gone below_gone (c.loop-next.invariant.free told);
      down = λ told. down_next nodes rounds n held now new (down_at nodes rounds c.loop-next.next held now c.loop-next-test.true (c.loop-next.invariant.down told)) (takes told).held
          (λ q is. c.in_ok-take_round.ensures.gone told q (subst (λ (l : List ℕ). IsRecordOf nodes l q) (sym here) is));
    }

pub returns-in_err-take_round-clause-takes : goal.returns-in_err-take_round-clause-takes
returns-in_err-take_round-clause-takes g c told =
    let nodes = c.args.nodes.now in
    let rounds = c.args.rounds.now in
    let n = c.loop-next.next - 1 in
    let held = (g.D.Disk.story c.args.disk.now).held in
    let now = (g.D.Disk.story c.loop-next.disk).held in
    let lt : n < length rounds = (let w = c.loop-next.invariant.within in let t = c.loop-next-test.true in omega (arith, w, t)) in
    let here : c.as_slice.result.now ≡ round_at rounds n = c.as_slice.ensures ∙ c.index-rounds-next.is ∙ get_or_default rounds n c.index-rounds-next.result [] lt in
    passes_on (AreInRounds nodes rounds held) (AreInRounds nodes rounds held) (g.met.D.Disk.sound c.loop-next.disk told) (c.loop-next.invariant.durable told) (c.loop-next.invariant.run told)
    (subst (λ (l : List ℕ). Passes (g.D.Disk.story c.loop-next.disk) (g.D.Disk.story c.take_round.new.disk) (TakesAway (IsRecordOf nodes l))) here (c.take_round.ensures.takes told)) (λ j p. p)
    (λ k t. in_rounds nodes rounds n held now k (down_at nodes rounds c.loop-next.next held now c.loop-next-test.true (c.loop-next.invariant.down told)) t)

pub returns-clause-gone : goal.returns-clause-gone
returns-clause-gone g c told k q lt is = (c.loop-next.invariant.down told).gone k q (omega arith) is
