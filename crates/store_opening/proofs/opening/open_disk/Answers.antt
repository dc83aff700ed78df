use Rattle.std.proofs.Common.{◌≡◌, ◌∙◌, sym, subst, List}
use Rattle.outside_traits.proofs.Calls.{syncs_passes, then_same}
use Rattle.outside_traits.specs.Store.{Store}
use Rattle.outside_traits.specs.Story.{IsImage, Story}
use Rattle.store_opening.specs.declared.bare.Bare.{Bare}
use Rattle.store_opening.specs.Survey.{AreBareIn}
use Rattle.store_opening.proofs.Opened.{clears_run, is_kept, opened_run}
use Rattle.store_opening.proofs.opening.open_disk.Goals as goal

pub survey_others-requires : goal.survey_others-requires
survey_others-requires g c told =
    let s = c.in_ok-survey.ensures.survey told in
    subst (λ (l : List Bare). AreBareIn (g.D.Disk.story c.survey_records.new.disk).held l) (sym c.deref.ensures.value)
    (subst (λ (h : Store). AreBareIn h c.in_ok-survey.survey.bare.items) (sym (c.in_ok-survey.ensures.others told).held) (record { candidates = s.candidates; found = s.found; are = s.bare_are }))

pub returns-in_err-remove_all-clause-images : goal.returns-in_err-remove_all-clause-images
returns-in_err-remove_all-clause-images g c told =
    clears_run c.in_ok-survey.survey.index c.in_ok-survey.survey.doomed.items c.survey_others.new.doomed.items c.deref-2.result.now c.in_ok-survey.survey.bare.items (c.in_ok-survey.ensures.survey told) (c.in_ok-survey.ensures.others told) (c.in_ok-survey_others.ensures.dooms told)
    (c.in_ok-survey_others.ensures.others told) c.deref-2.ensures.value (c.in_err-remove_all.ensures.others told)

pub returns-in_err-sync-clause-images : goal.returns-in_err-sync-clause-images
returns-in_err-sync-clause-images g c told =
    let cleared = clears_run c.in_ok-survey.survey.index c.in_ok-survey.survey.doomed.items c.survey_others.new.doomed.items c.deref-2.result.now c.in_ok-survey.survey.bare.items (c.in_ok-survey.ensures.survey told) (c.in_ok-survey.ensures.others told) (c.in_ok-survey_others.ensures.dooms told)
    (c.in_ok-survey_others.ensures.others told) c.deref-2.ensures.value (c.in_ok-remove_all.ensures.others told) in
    then_same cleared (syncs_passes (g.met.D.Disk.sound c.remove_all.new.disk told) (c.in_err-sync.ensures.told told))

pub returns-clause-images : goal.returns-clause-images
returns-clause-images g c told =
    let cleared = clears_run c.in_ok-survey.survey.index c.in_ok-survey.survey.doomed.items c.survey_others.new.doomed.items c.deref-2.result.now c.in_ok-survey.survey.bare.items (c.in_ok-survey.ensures.survey told) (c.in_ok-survey.ensures.others told) (c.in_ok-survey_others.ensures.dooms told)
    (c.in_ok-survey_others.ensures.others told) c.deref-2.ensures.value (c.in_ok-remove_all.ensures.others told) in
    then_same cleared (syncs_passes (g.met.D.Disk.sound c.remove_all.new.disk told) (c.in_ok-sync.ensures.told told))

pub returns-clause-rows : goal.returns-clause-rows
returns-clause-rows g c = c.in_ok-survey.ensures.rows

pub returns-clause-opened : goal.returns-clause-opened
returns-clause-opened g c told =
    opened_run c.in_ok-survey.survey.index c.in_ok-survey.survey.doomed.items c.survey_others.new.doomed.items c.deref-2.result.now c.in_ok-survey.survey.bare.items (c.in_ok-survey.ensures.survey told) (c.in_ok-survey.ensures.others told) (c.in_ok-survey_others.ensures.dooms told)
    (c.in_ok-survey_others.ensures.others told) c.deref-2.ensures.value (c.in_ok-remove_all.ensures.others told) (g.D.Disk.story c.sync.new.self)
    (c.in_ok-remove_all.ensures.gone told) (syncs_passes (g.met.D.Disk.sound c.remove_all.new.disk told) (c.in_ok-sync.ensures.told told)).held

pub returns-clause-keeps : goal.returns-clause-keeps
returns-clause-keeps g c told =
    let did = c.in_ok-sync.ensures.told told in
    let stays = (syncs_passes (g.met.D.Disk.sound c.remove_all.new.disk told) did).held in
    is_kept (g.D.Disk.story c.args.disk.now).held (g.D.Disk.story c.sync.new.self) c.in_ok-survey.survey.index
    (opened_run c.in_ok-survey.survey.index c.in_ok-survey.survey.doomed.items c.survey_others.new.doomed.items c.deref-2.result.now c.in_ok-survey.survey.bare.items (c.in_ok-survey.ensures.survey told) (c.in_ok-survey.ensures.others told) (c.in_ok-survey_others.ensures.dooms told)
    (c.in_ok-survey_others.ensures.others told) c.deref-2.ensures.value (c.in_ok-remove_all.ensures.others told) (g.D.Disk.story c.sync.new.self)
    (c.in_ok-remove_all.ensures.gone told) stays)
    (λ i img. let same : i ≡ (g.D.Disk.story c.remove_all.new.disk).held = subst (λ (s : Story). IsImage s i) did.answers img in same ∙ sym stays)
