use Rattle.std.proofs.Common.{◌≡◌, ◌∙◌, ◌+◌, ◌<◌, ℕ, zero, true, false, List, Contains, ap, sym, subst, refl, arith}
use Rattle.std.specs.Ordering.{nat_cmp}
use Rattle.std.specs.declared.cmp.Ordering.TheVariants.{Less}
use Rattle.std.proofs.lemmas.Cmp.{ranked}
use Rattle.std.proofs.lemmas.List.Elements.{All-contains}
use Rattle.setscene_plan.specs.View.{View}
use Rattle.setscene_plan.specs.Reworks.{IsRightAt, Steps}
use Rattle.setscene_plan.proofs.StepLemmas.{IsWorking, next_in, next_pushed, right_before, worked, working_first, working_next}
use Rattle.setscene_plan.proofs.work.Names.rework.Goals as goal

pub loop-place-init : goal.loop-place-init
loop-place-init g c = record {
  working = subst (λ (xs : List ℕ). IsWorking (g.P.Probe.view c.args.probe.now).rows c.args.plan.now.tasks c.args.self.now c.args.self.now c.args.dirty.now.keys c.args.dirty.now.keys xs) (sym c.requires.empty) (working_first (g.P.Probe.view c.args.probe.now).rows c.args.plan.now.tasks c.args.self.now c.args.dirty.now.keys c.requires.workable);
  same = refl;
  stays = g.met.P.Probe.stays_itself c.args.probe.now;
  asked = refl;
  still = refl;
}

pub step-requires-clause-place : goal.step-requires-clause-place
step-requires-clause-place g c =
    (c.loop-place.invariant.working.within c.in-Some.place (subst (λ (ks : List ℕ). Contains ks c.in-Some.place) (sym c.in-Some.ensures.removal) (zero, omega arith, refl))).1

pub step-requires-clause-before : goal.step-requires-clause-before
step-requires-clause-before g c =
    let view = g.P.Probe.view c.args.probe.now in
    let tasks = c.args.plan.now.tasks in
    let place = c.in-Some.place in
    let rest = c.pop_first.new.self.keys in
    let before = subst (λ (ks : List ℕ). IsWorking view.rows tasks c.args.self.now c.loop-place.self c.args.dirty.now.keys ks c.loop-place.changed.items) c.in-Some.ensures.removal c.loop-place.invariant.working in
    let behind : (t : ℕ) → Contains rest t → place < t = λ t h. ranked place t Less (sym (All-contains (λ y. nat_cmp place y ≡ Less) rest t c.in-Some.ensures.all_above h)) in
    subst (λ (v : View). (t : ℕ) → t < place → IsRightAt v.rows tasks c.loop-place.self t) (sym c.loop-place.invariant.same)
    (right_before view.rows tasks c.args.self.now c.loop-place.self c.args.dirty.now.keys rest c.loop-place.changed.items place behind before)

pub loop-place-smaller : goal.loop-place-smaller
loop-place-smaller g c =
    let within = c.loop-place.invariant.working.within c.in-Some.place (subst (λ (ks : List ℕ). Contains ks c.in-Some.place) (sym c.in-Some.ensures.removal) (zero, omega arith, refl)) in
    let pushed : next_in c.push.new.self.items ≡ c.in-Some.place + 1 = ap next_in c.in_ok-push.ensures.items ∙ next_pushed c.loop-place.changed.items c.in-Some.place in
    omega (arith, within.0, within.1, pushed)

pub loop-place-preserved : goal.loop-place-preserved
loop-place-preserved g c =
    let view = g.P.Probe.view c.args.probe.now in
    let tasks = c.args.plan.now.tasks in
    let place = c.in-Some.place in
    let rest = c.pop_first.new.self.keys in
    let same : g.P.Probe.view c.loop-place.probe ≡ view = c.loop-place.invariant.same in
    let before = subst (λ (ks : List ℕ). IsWorking view.rows tasks c.args.self.now c.loop-place.self c.args.dirty.now.keys ks c.loop-place.changed.items) c.in-Some.ensures.removal c.loop-place.invariant.working in
    let behind : (t : ℕ) → Contains rest t → place < t = λ t h. ranked place t Less (sym (All-contains (λ y. nat_cmp place y ≡ Less) rest t c.in-Some.ensures.all_above h)) in
    let steps = subst (λ (v : View). Steps v.rows tasks c.args.above.now place c.loop-place.self c.step.new.self rest c.step.new.dirty.keys) same c.in_ok-step.ensures.steps in
    let next = working_next view.rows tasks c.args.above.now c.requires.ordered c.requires.above c.args.self.now c.loop-place.self c.step.new.self c.args.dirty.now.keys c.loop-place.changed.items rest c.step.new.dirty.keys place behind before steps in
    record {
      working = subst (λ (xs : List ℕ). IsWorking view.rows tasks c.args.self.now c.step.new.self c.args.dirty.now.keys c.step.new.dirty.keys xs) (sym c.in_ok-push.ensures.items) next;
      same = c.in_ok-step.ensures.same ∙ same;
      stays = g.met.P.Probe.stays_on c.args.probe.now c.loop-place.probe c.step.new.probe c.loop-place.invariant.stays c.step.ensures.stays;
      asked = c.in_ok-step.ensures.asked ∙ c.loop-place.invariant.asked;
      still = c.in_ok-step.ensures.cause.stayed ∙ c.loop-place.invariant.still;
    }

pub returns-clause-worked : goal.returns-clause-worked
returns-clause-worked g c =
    worked (g.P.Probe.view c.args.probe.now).rows c.args.plan.now.tasks c.args.self.now c.loop-place.self c.args.dirty.now.keys c.loop-place.dirty.keys c.loop-place.changed.items
    (λ t h. let e : false ≡ true = c.in_default.ensures.variant.1 (omega (arith, h.1)) in absurd (cc)) c.loop-place.invariant.working

pub returns-in_err-step-clause-stays : goal.returns-in_err-step-clause-stays
returns-in_err-step-clause-stays g c = g.met.P.Probe.stays_on c.args.probe.now c.loop-place.probe c.step.new.probe c.loop-place.invariant.stays c.step.ensures.stays
