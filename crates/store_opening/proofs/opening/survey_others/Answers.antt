use Rattle.std.proofs.Common.{◌∙◌, subst}
use Rattle.std.proofs.lemmas.Result.{on_ok_weaker}
use Rattle.std.specs.Prelude.{codes}
use Rattle.tree_model.specs.Path.{BeginsWith}
use Rattle.outside_traits.specs.Store.{Store}
use Rattle.store_opening.specs.Survey.{Dooms, IsAt}
use Rattle.store_opening.proofs.Doomed.{dooms_blocked}
use Rattle.store_opening.proofs.Opened.{dooms_areas}
use Rattle.store_opening.proofs.opening.survey_others.Goals as goal

pub returns-clause-dooms : goal.returns-clause-dooms
returns-clause-dooms g c told =
    let held = (g.D.Disk.story c.args.disk.now).held in
    let e1 = (c.in_ok-survey_blocked.ensures.others told).held in
    let e2 = (c.in_ok-survey_temporary.ensures.others told).held ∙ e1 in
    let e3 = (c.in_ok-survey_at.ensures.others told).held ∙ e2 in
    let e4 = (c.in_ok-survey_at-2.ensures.others told).held ∙ e3 in
    let e5 = (c.in_ok-survey_at-3.ensures.others told).held ∙ e4 in
    let e6 = (c.in_ok-survey_at-4.ensures.others told).held ∙ e5 in
    on_ok_weaker c.survey_at-5.result (λ last. dooms_areas held c.args.doomed.now.items c.survey_blocked.new.doomed.items c.survey_temporary.new.doomed.items c.survey_at.new.doomed.items c.survey_at-2.new.doomed.items c.survey_at-3.new.doomed.items c.survey_at-4.new.doomed.items
    c.survey_at-5.new.doomed.items
    (dooms_blocked held c.args.bare.now c.args.doomed.now.items c.survey_blocked.new.doomed.items (c.requires told) (c.in_ok-survey_blocked.ensures.dooms told))
    (subst (λ (h : Store). Dooms h (BeginsWith (codes "tmp/")) c.survey_blocked.new.doomed.items c.survey_temporary.new.doomed.items) e1 (c.in_ok-survey_temporary.ensures.dooms told))
    (subst (λ (h : Store). Dooms h (IsAt (codes "rec2")) c.survey_temporary.new.doomed.items c.survey_at.new.doomed.items) e2 (c.in_ok-survey_at.ensures.dooms told))
    (subst (λ (h : Store). Dooms h (IsAt (codes "key")) c.survey_at.new.doomed.items c.survey_at-2.new.doomed.items) e3 (c.in_ok-survey_at-2.ensures.dooms told))
    (subst (λ (h : Store). Dooms h (IsAt (codes "stamp")) c.survey_at-2.new.doomed.items c.survey_at-3.new.doomed.items) e4 (c.in_ok-survey_at-3.ensures.dooms told))
    (subst (λ (h : Store). Dooms h (IsAt (codes "tmp")) c.survey_at-3.new.doomed.items c.survey_at-4.new.doomed.items) e5 (c.in_ok-survey_at-4.ensures.dooms told))
    (subst (λ (h : Store). Dooms h (IsAt (codes "obj")) c.survey_at-4.new.doomed.items c.survey_at-5.new.doomed.items) e6 last)) (c.survey_at-5.ensures.dooms told)
