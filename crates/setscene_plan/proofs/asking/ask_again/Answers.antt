use Rattle.std.proofs.Common.{◌≡◌, ◌≤◌, ◌+◌, ◌-◌, suc, ◌∙◌, refl, subst, drop, get_or, arith}
use Rattle.setscene_plan.specs.View.{View}
use Rattle.setscene_plan.specs.Asked.{AsksAll, AsksOne, members_among}
use Rattle.setscene_plan.proofs.Learning.{all_asked_next, among_next, missing_next}
use Rattle.setscene_plan.proofs.Meanings.{one_follows}
use Rattle.setscene_plan.proofs.asking.ask_again.Goals as goal

pub returns-then-branch-clause-all : goal.returns-then-branch-clause-all
returns-then-branch-clause-all g c =
    let place = c.loop-place.place - 1 in
    let view = g.P.Probe.view c.args.probe.now in
    let says = g.P.Probe.says c.args.probe.now in
    let same : g.P.Probe.view c.loop-place.probe ≡ view = c.loop-place.invariant.same in
    let up : c.loop-place.place ≡ suc (c.loop-place.place - 1) = omega (arith, c.loop-place-test.true) in
    all_asked_next says view c.args.unihashes.now c.args.need.now c.args.changed.now place (get_or c.args.changed.now place 0) c.args.avail.now c.loop-place.avail c.ask_one.new.avail c.loop-place.told.items c.ask_one.new.told.items c.in_ok-ask_one.field-0
    (omega (arith, c.loop-place-test.true)) refl
    (subst (λ p. AsksAll says view c.args.unihashes.now c.args.need.now c.args.changed.now p c.args.avail.now c.loop-place.avail c.loop-place.told.items) up c.loop-place.invariant.all)
    (one_follows (g.P.Probe.says c.loop-place.probe) says view c.args.unihashes.now c.args.need.now (get_or c.args.changed.now place 0) c.loop-place.avail c.ask_one.new.avail c.loop-place.told.items c.ask_one.new.told.items c.in_ok-ask_one.field-0 (g.met.P.Probe.says_stays c.args.probe.now c.loop-place.probe c.loop-place.invariant.stays)
    (subst (λ (v : View). AsksOne (g.P.Probe.says c.loop-place.probe) v c.args.unihashes.now c.args.need.now (get_or c.args.changed.now place 0) c.loop-place.avail c.ask_one.new.avail c.loop-place.told.items c.ask_one.new.told.items c.in_ok-ask_one.field-0) same c.in_ok-ask_one.ensures.one))

pub loop-place-preserved : goal.loop-place-preserved
loop-place-preserved g c =
    let place = c.loop-place.place - 1 in
    let view = g.P.Probe.view c.args.probe.now in
    let says = g.P.Probe.says c.args.probe.now in
    let same : g.P.Probe.view c.loop-place.probe ≡ view = c.loop-place.invariant.same in
    let up : c.loop-place.place ≡ suc (c.loop-place.place - 1) = omega (arith, c.loop-place-test.true) in
    let still : g.P.Probe.faults c.ask_one.new.probe ≡ g.P.Probe.faults c.loop-place.probe = c.in_ok-ask_one.ensures.cause.stayed in
    let before : g.P.Probe.asked c.loop-place.probe ≤ g.P.Probe.asked c.args.probe.now + members_among c.args.need.now (drop (suc (c.loop-place.place - 1)) c.args.changed.now) = subst (λ p. g.P.Probe.asked c.loop-place.probe ≤ g.P.Probe.asked c.args.probe.now + members_among c.args.need.now (drop p c.args.changed.now)) up c.loop-place.invariant.bound in
    record {
      all = all_asked_next says view c.args.unihashes.now c.args.need.now c.args.changed.now place (get_or c.args.changed.now place 0) c.args.avail.now c.loop-place.avail c.ask_one.new.avail c.loop-place.told.items c.ask_one.new.told.items c.in_ok-ask_one.field-0
          (omega (arith, c.loop-place-test.true)) refl
          (subst (λ p. AsksAll says view c.args.unihashes.now c.args.need.now c.args.changed.now p c.args.avail.now c.loop-place.avail c.loop-place.told.items) up c.loop-place.invariant.all)
          (one_follows (g.P.Probe.says c.loop-place.probe) says view c.args.unihashes.now c.args.need.now (get_or c.args.changed.now place 0) c.loop-place.avail c.ask_one.new.avail c.loop-place.told.items c.ask_one.new.told.items c.in_ok-ask_one.field-0 (g.met.P.Probe.says_stays c.args.probe.now c.loop-place.probe c.loop-place.invariant.stays)
          (subst (λ (v : View). AsksOne (g.P.Probe.says c.loop-place.probe) v c.args.unihashes.now c.args.need.now (get_or c.args.changed.now place 0) c.loop-place.avail c.ask_one.new.avail c.loop-place.told.items c.ask_one.new.told.items c.in_ok-ask_one.field-0) same c.in_ok-ask_one.ensures.one));
      missing = missing_next c.args.avail.now c.loop-place.avail c.ask_one.new.avail c.loop-place.invariant.missing (c.in_ok-ask_one.ensures.one.stays c.if-branch.false);
      bound = omega (arith, c.in_ok-ask_one.ensures.asked, before, among_next c.args.need.now c.args.changed.now place (get_or c.args.changed.now place 0) (omega (arith, c.loop-place-test.true)) refl);
      same = c.in_ok-ask_one.ensures.same ∙ same;
      stays = g.met.P.Probe.stays_on c.args.probe.now c.loop-place.probe c.ask_one.new.probe c.loop-place.invariant.stays c.ask_one.ensures.stays;
      still = still ∙ c.loop-place.invariant.still;
    }

pub returns-then-branch-clause-stays : goal.returns-then-branch-clause-stays
returns-then-branch-clause-stays g c = g.met.P.Probe.stays_on c.args.probe.now c.loop-place.probe c.ask_one.new.probe c.loop-place.invariant.stays c.ask_one.ensures.stays

pub returns-in_err-ask_one-clause-stays : goal.returns-in_err-ask_one-clause-stays
returns-in_err-ask_one-clause-stays g c = g.met.P.Probe.stays_on c.args.probe.now c.loop-place.probe c.ask_one.new.probe c.loop-place.invariant.stays c.ask_one.ensures.stays
