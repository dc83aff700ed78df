use Rattle.std.proofs.Common.{List, take, ◌≡◌, ◌∙◌, sym, ap, subst, length, arith}
use Rattle.meta_model.specs.declared.event.Avail.{Avail}
use Rattle.meta_model.specs.declared.plan.Plan.{Plan}
use Rattle.tale_model.specs.Need.{IsNeed}
use Rattle.setscene_plan.specs.Asked.{AreNeeds, members_beyond}
use Rattle.setscene_plan.proofs.Learning.{whole, none_needs, none_asked, none_told, some_asked, some_others, some_told}
use Rattle.setscene_plan.proofs.Meanings.{others_follow}
use Rattle.setscene_plan.proofs.asking.after_change.Goals as goal

pub returns-in-None-clause-needs : goal.returns-in-None-clause-needs
returns-in-None-clause-needs g c =
    let view = g.P.Probe.view c.args.probe.now in
    let says = g.P.Probe.says c.args.probe.now in
    let plan : c.args.plan.now ≡ view.plan = sym c.requires.plan in
    let long : length c.ask_again.new.avail ≡ length c.args.needs.now.avail.items = c.ask_again.auto.avail ∙ ap (λ (xs : List Avail). length xs) c.deref_mut.ensures.value in
    subst (λ (xs : List Avail). AreNeeds says view c.args.unihashes.now c.args.needs.now.need.items xs)
    (sym (whole c.ask_again.new.avail c.args.needs.now.avail.items c.args.needs.now.avail.len (omega (arith, long))))
    (none_needs says view c.args.unihashes.now c.args.needs.now.need.items c.as_slice.result.now c.args.needs.now.avail.items c.deref_mut.result.now c.ask_again.new.avail c.args.changed.now c.ask_again.new.told.items c.in_ok-ask_again.field-0
    (subst (λ (p : Plan). IsNeed p c.args.needs.now.avail.items c.args.needs.now.need.items) plan c.requires.own) (long ∙ c.requires.avail ∙ ap (λ (p : Plan). length p.tasks) plan) c.as_slice.ensures.value c.deref_mut.ensures.value c.in-None.is c.in_ok-ask_again.ensures.missing c.in_ok-ask_again.ensures.all)

pub returns-in-None-clause-asked : goal.returns-in-None-clause-asked
returns-in-None-clause-asked g c = none_asked c.args.needs.now.need.items c.as_slice.result.now c.args.needs.now.need.items c.args.changed.now c.in_ok-ask_again.field-0 (g.P.Probe.asked c.args.probe.now) (g.P.Probe.asked c.ask_again.new.probe) (members_beyond c.args.needs.now.need.items c.args.needs.now.need.items) c.as_slice.ensures.value c.in-None.is c.in_ok-ask_again.ensures.asked

pub returns-in-None-clause-told : goal.returns-in-None-clause-told
returns-in-None-clause-told g c =
    let long : length c.ask_again.new.avail ≡ length c.args.needs.now.avail.items = c.ask_again.auto.avail ∙ ap (λ (xs : List Avail). length xs) c.deref_mut.ensures.value in
    none_told c.args.needs.now.need.items c.args.needs.now.avail.items c.deref_mut.result.now c.ask_again.new.avail _ c.ask_again.new.told.items c.deref_mut.ensures.value (whole c.ask_again.new.avail c.args.needs.now.avail.items c.args.needs.now.avail.len (omega (arith, long))) c.in_ok-ask_again.ensures.all.told_all

pub returns-in_ok-extend_from_slice-in-Some-clause-asked : goal.returns-in_ok-extend_from_slice-in-Some-clause-asked
returns-in_ok-extend_from_slice-in-Some-clause-asked g c =
    some_asked c.args.needs.now.need.items c.as_slice.result.now c.sweep_again.new.needs.need.items c.args.changed.now c.in_ok-ask_again.field-0 c.in-Some.left
    (g.P.Probe.asked c.args.probe.now) (g.P.Probe.asked c.ask_again.new.probe) (g.P.Probe.asked c.sweep_again.new.probe) (members_beyond c.sweep_again.new.needs.need.items c.args.needs.now.need.items) c.as_slice.ensures.value c.in-Some.is c.in_ok-ask_again.ensures.asked c.in_ok-more-in-Some.ensures.asked

pub returns-in_ok-extend_from_slice-in-Some-clause-told :
    goal.returns-in_ok-extend_from_slice-in-Some-clause-told
returns-in_ok-extend_from_slice-in-Some-clause-told g c =
    let long : length c.ask_again.new.avail ≡ length c.args.needs.now.avail.items = c.ask_again.auto.avail ∙ ap (λ (xs : List Avail). length xs) c.deref_mut.ensures.value in
    some_told c.args.needs.now.need.items c.sweep_again.new.needs.need.items c.args.needs.now.avail.items c.deref_mut.result.now c.ask_again.new.avail _ c.sweep_again.new.needs.avail.items c.ask_again.new.told.items c.in_ok-more-in-Some.more.items c.as_slice-in-Some.result.now c.extend_from_slice.new.self.items
    c.deref_mut.ensures.value (whole c.ask_again.new.avail c.args.needs.now.avail.items c.args.needs.now.avail.len (omega (arith, long))) c.as_slice-in-Some.ensures.value c.in_ok-extend_from_slice-in-Some.ensures.items c.in_ok-ask_again.ensures.all.told_all c.in_ok-more-in-Some.ensures.told

pub sweep_again-requires-clause-others : goal.sweep_again-requires-clause-others
sweep_again-requires-clause-others g c =
    let says = g.P.Probe.says c.args.probe.now in
    let view = g.P.Probe.view c.args.probe.now in
    let now = g.P.Probe.view c.ask_again.new.probe in
    let long : length c.ask_again.new.avail ≡ length c.args.needs.now.avail.items = c.ask_again.auto.avail ∙ ap (λ (xs : List Avail). length xs) c.deref_mut.ensures.value in
    others_follow says (g.P.Probe.says c.ask_again.new.probe) now c.args.unihashes.now c.args.needs.now.need.items _ (take c.in-Some.left c.args.changed.now) (g.met.P.Probe.says_still c.args.probe.now c.ask_again.new.probe c.ask_again.ensures.stays)
    (some_others says view now c.args.unihashes.now c.args.needs.now.need.items c.as_slice.result.now c.deref_mut.result.now c.ask_again.new.avail _ c.args.changed.now c.ask_again.new.told.items c.in_ok-ask_again.field-0 c.in-Some.left
    c.as_slice.ensures.value (whole c.ask_again.new.avail c.args.needs.now.avail.items c.args.needs.now.avail.len (omega (arith, long))) c.in-Some.is c.ask_again.ensures.same c.in_ok-ask_again.ensures.all)
