use Rattle.std.proofs.Common.{◌<◌, length, ap, sym, subst, refl, arith}
use Rattle.meta_model.specs.declared.plan.Plan.{Plan}
use Rattle.setscene_plan.specs.declared.replan.Replan.{Replan}
use Rattle.setscene_plan.specs.Reworks.{IsWorkable, IsWorked}
use Rattle.setscene_plan.specs.Replans.{names_in}
use Rattle.setscene_plan.proofs.Updating.{reworks_names, settled_workable}
use Rattle.setscene_plan.proofs.replan.Replan.rework.Goals as goal

pub rework-requires-clause-workable : goal.rework-requires-clause-workable
rework-requires-clause-workable g c =
    let view = g.P.Probe.view c.args.probe.now in
    let says = g.P.Probe.says c.args.probe.now in
    subst (λ (p : Plan). IsWorkable view.rows p.tasks c.args.self.now.names c.in_ok-dirty.dirty.keys) c.requires.plan
    (settled_workable says view c.args.task c.args.self.now c.in_ok-dirty.dirty.keys c.requires.settled c.in_ok-dirty.ensures.within c.in_ok-dirty.ensures.whole)

pub returns-clause-reworks : goal.returns-clause-reworks
returns-clause-reworks g c =
    let view = g.P.Probe.view c.args.probe.now in
    let new : Replan = record { names = c.rework.new.self; above = c.args.self.now.above; needs = c.args.self.now.needs; changed = c.rework.new.changed; told = c.args.self.now.told } in
    let lt : c.args.task < length (names_in c.args.self.now) = omega (arith, c.requires.task, c.requires.settled.made.long, ap (λ (p : Plan). length p.tasks) c.requires.plan) in
    reworks_names view c.args.task c.args.self.now new c.in_ok-dirty.dirty.keys
    (subst (λ (p : Plan). IsWorked view.rows p.tasks c.args.self.now.names c.rework.new.self c.in_ok-dirty.dirty.keys c.rework.new.changed.items) (sym c.requires.plan) c.in_ok-rework.ensures.worked)
    c.in_ok-dirty.ensures.only (c.in_ok-dirty.ensures.whole c.args.task lt refl) refl refl
