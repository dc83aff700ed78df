use Rattle.std.proofs.Common.{◌<◌, length, ap, sym, subst, refl, arith}
use Rattle.meta_model.specs.declared.plan.Plan.{Plan}
use Rattle.run_core.specs.Need.{AreOrdered}
use Rattle.setscene_plan.specs.declared.replan.Replan.{Replan}
use Rattle.setscene_plan.specs.View.{View}
use Rattle.setscene_plan.specs.Replans.{AsksNeeds, IsAskable, IsSettled}
use Rattle.setscene_plan.proofs.Updating.{asked_current, askable, kept_current, names_scratch, settled_alike}
use Rattle.setscene_plan.proofs.Meanings.{asks_follow, askable_follows}
use Rattle.setscene_plan.proofs.replan.Replan.settled.Goals as goal

pub returns-then-is_kept-clause-current : goal.returns-then-is_kept-clause-current
returns-then-is_kept-clause-current g c =
    let view = g.P.Probe.view c.args.probe.now in
    let says = g.P.Probe.says c.args.probe.now in
    let cleared : Replan = record { names = c.args.self.now.names; above = c.args.self.now.above; needs = c.args.self.now.needs; changed = c.clear.new.self; told = c.clear-2.new.self } in
    let is : IsSettled says view c.args.task cleared = settled_alike says view c.args.task c.args.self.now cleared refl refl refl c.requires.settled in
    let lt : c.args.task < length view.plan.tasks = omega (arith, c.requires.task, ap (λ (p : Plan). length p.tasks) c.requires.plan) in
    kept_current says view c.args.task cleared lt is (c.is_kept.ensures.distinct c.if-is_kept.true) (c.is_kept.ensures.hashed c.if-is_kept.true)

pub returns-then-is_kept-clause-names : goal.returns-then-is_kept-clause-names
returns-then-is_kept-clause-names g c =
    let view = g.P.Probe.view c.args.probe.now in
    let says = g.P.Probe.says c.args.probe.now in
    let cleared : Replan = record { names = c.args.self.now.names; above = c.args.self.now.above; needs = c.args.self.now.needs; changed = c.clear.new.self; told = c.clear-2.new.self } in
    let is : IsSettled says view c.args.task cleared = settled_alike says view c.args.task c.args.self.now cleared refl refl refl c.requires.settled in
    let lt : c.args.task < length view.plan.tasks = omega (arith, c.requires.task, ap (λ (p : Plan). length p.tasks) c.requires.plan) in
    names_scratch says view c.args.plan.now cleared c.requires.plan c.requires.ordered (kept_current says view c.args.task cleared lt is (c.is_kept.ensures.distinct c.if-is_kept.true) (c.is_kept.ensures.hashed c.if-is_kept.true))

pub ask_changed-requires-clause-askable : goal.ask_changed-requires-clause-askable
ask_changed-requires-clause-askable g c =
    let view = g.P.Probe.view c.args.probe.now in
    let says = g.P.Probe.says c.args.probe.now in
    let cleared : Replan = record { names = c.args.self.now.names; above = c.args.self.now.above; needs = c.args.self.now.needs; changed = c.clear.new.self; told = c.clear-2.new.self } in
    let is : IsSettled says view c.args.task cleared = settled_alike says view c.args.task c.args.self.now cleared refl refl refl c.requires.settled in
    subst (λ (v : View). IsAskable (g.P.Probe.says c.rework.new.probe) v c.rework.new.self) (sym c.in_ok-rework.ensures.same)
    (askable_follows says (g.P.Probe.says c.rework.new.probe) view c.rework.new.self (g.met.P.Probe.says_still c.args.probe.now c.rework.new.probe c.rework.ensures.stays) (askable says view c.args.task cleared c.rework.new.self (subst (λ (p : Plan). AreOrdered p.tasks) (sym c.requires.plan) c.requires.ordered) is c.in_ok-rework.ensures.reworks))

pub returns-clause-current : goal.returns-clause-current
returns-clause-current g c =
    let view = g.P.Probe.view c.args.probe.now in
    let says = g.P.Probe.says c.args.probe.now in
    let cleared : Replan = record { names = c.args.self.now.names; above = c.args.self.now.above; needs = c.args.self.now.needs; changed = c.clear.new.self; told = c.clear-2.new.self } in
    let is : IsSettled says view c.args.task cleared = settled_alike says view c.args.task c.args.self.now cleared refl refl refl c.requires.settled in
    let asks : AsksNeeds says view c.rework.new.self c.ask_changed.new.self = asks_follow (g.P.Probe.says c.rework.new.probe) says view c.rework.new.self c.ask_changed.new.self (g.met.P.Probe.says_stays c.args.probe.now c.rework.new.probe c.rework.ensures.stays)
    (subst (λ (v : View). AsksNeeds (g.P.Probe.says c.rework.new.probe) v c.rework.new.self c.ask_changed.new.self) c.in_ok-rework.ensures.same c.in_ok-ask_changed.ensures.asks) in
    asked_current says view c.args.task cleared c.rework.new.self c.ask_changed.new.self is c.in_ok-rework.ensures.reworks asks

pub returns-clause-names : goal.returns-clause-names
returns-clause-names g c =
    let view = g.P.Probe.view c.args.probe.now in
    let says = g.P.Probe.says c.args.probe.now in
    let cleared : Replan = record { names = c.args.self.now.names; above = c.args.self.now.above; needs = c.args.self.now.needs; changed = c.clear.new.self; told = c.clear-2.new.self } in
    let is : IsSettled says view c.args.task cleared = settled_alike says view c.args.task c.args.self.now cleared refl refl refl c.requires.settled in
    let asks : AsksNeeds says view c.rework.new.self c.ask_changed.new.self = asks_follow (g.P.Probe.says c.rework.new.probe) says view c.rework.new.self c.ask_changed.new.self (g.met.P.Probe.says_stays c.args.probe.now c.rework.new.probe c.rework.ensures.stays)
    (subst (λ (v : View). AsksNeeds (g.P.Probe.says c.rework.new.probe) v c.rework.new.self c.ask_changed.new.self) c.in_ok-rework.ensures.same c.in_ok-ask_changed.ensures.asks) in
    names_scratch says view c.args.plan.now c.ask_changed.new.self c.requires.plan c.requires.ordered (asked_current says view c.args.task cleared c.rework.new.self c.ask_changed.new.self is c.in_ok-rework.ensures.reworks asks)
