use Rattle.std.proofs.Common.{◌≡◌, ◌<◌, ◌∙◌, arith, false, get_or, length, refl}
use Rattle.std.proofs.lemmas.List.{get_or_default}
use Rattle.store_clean.proofs.Layered.{rounds_all, rounds_first, rounds_next}
use Rattle.store_clean.proofs.rounds.rounds_of.Goals as goal

pub loop-place-init : goal.loop-place-init
loop-place-init c = rounds_first c.args.edges.now c.in_ok-layers.layers.items c.args.marks.now c.in_ok-rounds.rounds.items c.in_ok-rounds.ensures

pub loop-place-preserved : goal.loop-place-preserved
loop-place-preserved c =
    let below : c.loop-place.place < length c.in_ok-layers.layers.items = (let a = c.in_ok-layers.ensures.long in let b = c.requires.long in let t = c.loop-place-test.true in omega (arith, a, b, t)) in
    rounds_next c.args.edges.now c.in_ok-layers.layers.items c.args.marks.now c.loop-place.place c.index.result.now (get_or c.args.marks.now c.loop-place.place false) c.loop-place.rounds.items c.put_unless.new.rounds.items refl
    (c.index.ensures ∙ get_or_default c.in_ok-layers.layers.items c.loop-place.place c.index.result.now 0 below) c.loop-place.invariant c.in_ok-put_unless.ensures

pub returns : goal.returns
returns c = let all : c.loop-place.place ≡ length c.args.edges.now = omega arith in rounds_all c.args.edges.now c.in_ok-layers.layers.items c.args.marks.now c.loop-place.place c.loop-place.rounds.items all c.in_ok-layers.ensures c.loop-place.invariant
