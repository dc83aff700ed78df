use Rattle.std.proofs.Common.{◌∙◌, ap, ℕ, ◌<◌, List, Contains, length, get_or, subst}
use Rattle.std.proofs.lemmas.List.Elements.{Contains-get_or}
use Rattle.meta_model.specs.declared.plan.Plan.{Plan}
use Rattle.setscene_plan.specs.Names.{unihashes_over}
use Rattle.setscene_plan.proofs.replan.Replan.ask_changed.Goals as goal

pub after_change-requires-clause-over : goal.after_change-requires-clause-over
after_change-requires-clause-over g c =
    c.as_slice.ensures.value ∙ c.requires.askable.over
    ∙ ap (λ (p : Plan). unihashes_over (g.P.Probe.view c.args.probe.now).rows p.tasks) c.requires.plan

pub after_change-requires-clause-within : goal.after_change-requires-clause-within
after_change-requires-clause-within g c = λ k d lt.
    let xs = c.as_slice-2.result.now in
    subst (λ (p : Plan). get_or xs k d < length p.tasks) c.requires.plan
    (c.requires.askable.within (get_or xs k d) (subst (λ (l : List ℕ). Contains l (get_or xs k d)) c.as_slice-2.ensures.value (Contains-get_or xs k d lt)))
