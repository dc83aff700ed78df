use Rattle.std.proofs.Common.{arith, get_or}
use Rattle.std.proofs.lemmas.List.{get_or_default}
use Rattle.store_clean.proofs.Layered.{above_next}
use Rattle.store_clean.proofs.Lists.{taken_all, taken_none}
use Rattle.store_clean.proofs.rounds.layer_above.Goals as goal

pub loop-place-init : goal.loop-place-init
loop-place-init c = record { over = λ w has. absurd (taken_none c.args.places.now w has); low = omega arith }

pub loop-place-preserved : goal.loop-place-preserved
loop-place-preserved c =
    let place = get_or c.args.places.now c.loop-place.place-index 0 in
    record {
      over = above_next c.args.layers.now c.args.places.now c.loop-place.place-index place c.loop-place.above c.higher-above.result c.loop-place-test.true (get_or_default c.args.places.now c.loop-place.place-index 0 place c.loop-place-test.true) c.loop-place.invariant.over c.higher-above.ensures.over c.higher-above.ensures.no_less;
      low = c.higher-above.ensures.low;
    }

pub returns-clause-above : goal.returns-clause-above
returns-clause-above c w has = c.loop-place.invariant.over w (taken_all c.args.places.now c.loop-place.place-index w c.loop-place-test.false has)
