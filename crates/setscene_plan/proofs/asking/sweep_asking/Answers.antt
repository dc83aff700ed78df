use Rattle.std.proofs.Common.{List, ◌≡◌, ◌-◌, suc, ◌∙◌, ap, subst, sym, length, slice_get, arith}
use Rattle.meta_model.specs.declared.plan.Plan.{Plan}
use Rattle.meta_model.specs.declared.plan.PlanTask.{PlanTask}
use Rattle.run_core.specs.Need.{AreOrdered}
use Rattle.setscene_plan.specs.Sets.{Adds, IsBelow}
use Rattle.setscene_plan.specs.View.{IsKnown, View}
use Rattle.setscene_plan.proofs.Learning.{IsAsked, asked_all, asked_next}
use Rattle.setscene_plan.proofs.Meanings.{known_follows}
use Rattle.setscene_plan.proofs.asking.sweep_asking.Goals as goal

pub loop-place-preserved : goal.loop-place-preserved
loop-place-preserved g c =
    let place = c.loop-place.place - 1 in
    let view = g.P.Probe.view c.args.probe.now in
    let says = g.P.Probe.says c.args.probe.now in
    let same : g.P.Probe.view c.loop-place.probe ≡ view = c.loop-place.invariant.same in
    let up : c.loop-place.place ≡ suc (c.loop-place.place - 1) = omega (arith, c.loop-place-test.true) in
    let plan : c.args.plan.now ≡ view.plan = sym c.requires.plan in
    record {
      asked = asked_next says view c.args.unihashes.now c.args.known.now _ c.loop-place.set c.visit.new.set c.loop-place.avail c.visit.new.avail _ _ place
          (subst (λ (p : Plan). AreOrdered p.tasks) plan c.requires.ordered)
          (omega (arith, c.loop-place-test.true, ap (λ (xs : List PlanTask). length xs) c.as_slice-tasks.ensures, ap (λ (p : Plan). length p.tasks) plan))
          (subst (λ p. IsAsked says view c.args.unihashes.now c.args.known.now (g.P.Probe.asked c.args.probe.now) c.loop-place.set c.loop-place.avail (g.P.Probe.asked c.loop-place.probe) p) up c.loop-place.invariant.asked)
          (subst (λ (p : Plan). Adds (IsBelow p.tasks c.visit.new.avail c.loop-place.set place) c.loop-place.set c.visit.new.set) plan c.in_ok-visit.ensures.set)
          (λ member. known_follows (g.P.Probe.says c.loop-place.probe) says view c.args.unihashes.now place (slice_get c.visit.new.avail place) (g.met.P.Probe.says_stays c.args.probe.now c.loop-place.probe c.loop-place.invariant.stays)
          (subst (λ (v : View). IsKnown (g.P.Probe.says c.loop-place.probe) v c.args.unihashes.now place (slice_get c.visit.new.avail place)) same (c.in_ok-visit.ensures.here member)))
          c.visit.auto.avail
          c.in_ok-visit.ensures.elsewhere
          c.in_ok-visit.ensures.asked;
      same = c.in_ok-visit.ensures.same ∙ same;
      stays = g.met.P.Probe.stays_on c.args.probe.now c.loop-place.probe c.visit.new.probe c.loop-place.invariant.stays c.visit.ensures.stays;
      still = c.in_ok-visit.ensures.cause.stayed ∙ c.loop-place.invariant.still;
    }

pub returns-clause-needs : goal.returns-clause-needs
returns-clause-needs g c =
    let view = g.P.Probe.view c.args.probe.now in
    let says = g.P.Probe.says c.args.probe.now in
    let at : c.loop-place.place ≡ 0 = omega (arith, c.loop-place-test.false) in
    asked_all says view c.args.unihashes.now c.args.known.now (g.P.Probe.asked c.args.probe.now) c.loop-place.set c.loop-place.avail (g.P.Probe.asked c.loop-place.probe)
    (subst (IsAsked says view c.args.unihashes.now c.args.known.now (g.P.Probe.asked c.args.probe.now) c.loop-place.set c.loop-place.avail (g.P.Probe.asked c.loop-place.probe)) at c.loop-place.invariant.asked)

pub visit-requires-clause-known : goal.visit-requires-clause-known
visit-requires-clause-known g c = λ member.
    let place = c.loop-place.place - 1 in
    let view = g.P.Probe.view c.args.probe.now in
    let says = g.P.Probe.says c.args.probe.now in
    let before = c.loop-place.invariant.asked.right place (omega (arith, c.loop-place-test.true)) member in
    subst (λ (v : View). IsKnown (g.P.Probe.says c.loop-place.probe) v c.args.unihashes.now place (slice_get c.loop-place.avail place)) (sym c.loop-place.invariant.same)
    (known_follows says (g.P.Probe.says c.loop-place.probe) view c.args.unihashes.now place (slice_get c.loop-place.avail place) (g.met.P.Probe.says_still c.args.probe.now c.loop-place.probe c.loop-place.invariant.stays) before)

pub returns-in_err-visit-clause-stays : goal.returns-in_err-visit-clause-stays
returns-in_err-visit-clause-stays g c = g.met.P.Probe.stays_on c.args.probe.now c.loop-place.probe c.visit.new.probe c.loop-place.invariant.stays c.visit.ensures.stays
