use Rattle.std.proofs.Common.{◌≡◌, ◌∙◌, ap, sym, subst, List, ℕ}
use Rattle.std.specs.List.{AllByRecursion}
use Rattle.store_model.specs.declared.candidate.Candidate.{Candidate}
use Rattle.store_model.specs.Believed.{AreBelieved}
use Rattle.store_model.specs.Opened.{rows_at}
use Rattle.store_model.specs.Readable.{IsRow}
use Rattle.store_opening.specs.Survey.{AreBare, DoomsUnbelieved, IsFoundIn}
use Rattle.store_opening.proofs.Indexed.{rows_good}
use Rattle.store_opening.proofs.Opened.{record_survey}
use Rattle.store_opening.proofs.judging.survey_of.Goals as goal

pub returns : goal.returns
returns c =
    let candidates = c.ascending_or_none-candidates.result.items in
    let places = c.in_ok-places.places.items in
    let rows : c.in_ok-index.index ≡ rows_at candidates places = c.in_ok-index.ensures ∙ ap (λ cs. rows_at cs c.deref-6.result.now) c.deref-5.ensures.value ∙ ap (rows_at candidates) c.deref-6.ensures.value in
    record {
      are_rows = subst (AllByRecursion IsRow) (sym rows) (rows_good c.args.keys.now candidates places (c.ascending_or_none-candidates.ensures.good c.args.keys.now c.in_ok-found.ensures.good));
      survey = λ held all keys.
          let f = c.in_ok-found.ensures.found held all keys in
          record_survey held candidates places c.in_ok-found.found.rejected.items c.doom_unbelieved.new.doomed.items c.survey_keys.new.doomed.items c.in_ok-index.index c.in_ok-bare.bare.items
          (subst (λ (cs : List Candidate). IsFoundIn held cs c.in_ok-found.found.rejected.items) (sym (c.ascending_or_none-candidates.ensures.same f.found.ascend)) f)
          (subst (λ (cs : List Candidate). AreBelieved cs places) c.deref.ensures.value c.in_ok-places.ensures)
          (subst (λ (cs : List Candidate). DoomsUnbelieved cs places c.in_ok-found.found.rejected.items c.doom_unbelieved.new.doomed.items) c.deref-2.ensures.value
          (subst (λ (ps : List ℕ). DoomsUnbelieved c.deref-2.result.now ps c.in_ok-found.found.rejected.items c.doom_unbelieved.new.doomed.items) c.deref-3.ensures.value c.in_ok-doom_unbelieved.ensures))
          rows
          (subst (λ (cs : List Candidate). AreBare cs c.in_ok-bare.bare.items) c.deref-4.ensures.value c.in_ok-bare.ensures)
          (c.in_ok-survey_keys.ensures held keys);
    }
