use Rattle.std.proofs.Common.{◌∙◌, sym, ap, List, subst}
use Rattle.tree_model.specs.declared.hash.Hash.{Hash}
use Rattle.meta_model.specs.declared.plan.PlanTask.{PlanTask}
use Rattle.run_core.specs.Above.{IsAbove}
use Rattle.setscene_plan.specs.declared.replan.Replan.{Replan}
use Rattle.setscene_plan.specs.View.{View}
use Rattle.setscene_plan.specs.Asked.{AreNeeds}
use Rattle.setscene_plan.specs.Names.{unihashes_over}
use Rattle.setscene_plan.proofs.Updating.{names_scratch, new_current, right_over}
use Rattle.setscene_plan.proofs.Meanings.{needs_follow}
use Rattle.setscene_plan.proofs.replan.Replan.new.Goals as goal

pub plan_need-requires-clause-over : goal.plan_need-requires-clause-over
plan_need-requires-clause-over g c =
    let tasks = c.args.plan.now.tasks in
    c.as_slice.ensures.value
    ∙ right_over (g.P.Probe.view c.args.probe.now).rows tasks c.in_ok-names.names c.requires.ordered c.in_ok-names.ensures.names c.in_ok-names.ensures.unihashes c.in_ok-names.ensures.right
    ∙ ap (λ (v : View). unihashes_over v.rows tasks) (sym c.in_ok-names.ensures.same)

pub returns-clause-current : goal.returns-clause-current
returns-clause-current g c =
    let view = g.P.Probe.view c.args.probe.now in
    let says = g.P.Probe.says c.args.probe.now in
    let made : Replan = record { names = c.in_ok-names.names; above = c.in_ok-above.above; needs = c.in_ok-needs.needs; changed = c.new.result; told = c.new-2.result } in
    new_current says view c.args.plan.now made c.requires.plan c.in_ok-names.ensures.names c.in_ok-names.ensures.unihashes c.in_ok-names.ensures.right c.in_ok-names.ensures.found
    (subst (λ (ts : List PlanTask). IsAbove ts c.in_ok-above.above.items) c.as_slice-2.ensures c.in_ok-above.ensures)
    (subst (λ (us : List Hash). AreNeeds says view us c.in_ok-needs.needs.need.items c.in_ok-needs.needs.avail.items) c.as_slice.ensures.value
    (needs_follow (g.P.Probe.says c.of_plan.new.probe) says view c.as_slice.result.now c.in_ok-needs.needs.need.items c.in_ok-needs.needs.avail.items (g.met.P.Probe.says_stays c.args.probe.now c.of_plan.new.probe c.of_plan.ensures.stays)
    (subst (λ (v : View). AreNeeds (g.P.Probe.says c.of_plan.new.probe) v c.as_slice.result.now c.in_ok-needs.needs.need.items c.in_ok-needs.needs.avail.items) c.in_ok-names.ensures.same c.in_ok-needs.ensures.needs)))

pub returns-clause-names : goal.returns-clause-names
returns-clause-names g c =
    let view = g.P.Probe.view c.args.probe.now in
    let says = g.P.Probe.says c.args.probe.now in
    let made : Replan = record { names = c.in_ok-names.names; above = c.in_ok-above.above; needs = c.in_ok-needs.needs; changed = c.new.result; told = c.new-2.result } in
    names_scratch says view c.args.plan.now made c.requires.plan c.requires.ordered
    (new_current says view c.args.plan.now made c.requires.plan c.in_ok-names.ensures.names c.in_ok-names.ensures.unihashes c.in_ok-names.ensures.right c.in_ok-names.ensures.found
    (subst (λ (ts : List PlanTask). IsAbove ts c.in_ok-above.above.items) c.as_slice-2.ensures c.in_ok-above.ensures)
    (subst (λ (us : List Hash). AreNeeds says view us c.in_ok-needs.needs.need.items c.in_ok-needs.needs.avail.items) c.as_slice.ensures.value
    (needs_follow (g.P.Probe.says c.of_plan.new.probe) says view c.as_slice.result.now c.in_ok-needs.needs.need.items c.in_ok-needs.needs.avail.items (g.met.P.Probe.says_stays c.args.probe.now c.of_plan.new.probe c.of_plan.ensures.stays)
    (subst (λ (v : View). AreNeeds (g.P.Probe.says c.of_plan.new.probe) v c.as_slice.result.now c.in_ok-needs.needs.need.items c.in_ok-needs.needs.avail.items) c.in_ok-names.ensures.same c.in_ok-needs.ensures.needs))))
