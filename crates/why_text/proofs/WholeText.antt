-- The text of a plan, by what a run that begins knows.
use Rattle.std.proofs.Common.{◌≡◌, subst, ℕ, Bool, List, Some, slice_get}
use Rattle.outside_traits.specs.Store.{Store}
use Rattle.meta_model.specs.declared.event.Avail.{Avail}
use Rattle.meta_model.specs.declared.plan.Plan.{Plan}
use Rattle.store_model.specs.declared.signature.EquivRow.{EquivRow}
use Rattle.store_model.specs.declared.signature.SigRecord.{SigRecord}
use Rattle.store_model.specs.Available.{IsAvailable}
use Rattle.store_model.specs.Signatures.{Signed, signatures}
use Rattle.tale_model.specs.Need.{IsIn}
use Rattle.run_core.specs.Need.{AreOrdered}
use Rattle.build_store.specs.View.{signed_by}
use Rattle.setscene_plan.specs.declared.replan.Replan.{Replan}
use Rattle.setscene_plan.specs.Names.{AreNamed, unihashes_over}
use Rattle.setscene_plan.specs.Replans.{IsCurrent, avail_in, names_in, need_in, unihashes_in}
use Rattle.setscene_plan.proofs.Naming.{signed_is, signed_task, unihashes_over_rows}
use Rattle.why_model.specs.Judged.{IsJudged}
use Rattle.why_model.specs.Why.{IsWhyText}
use Rattle.why_text.specs.Looks.{looked}
use Rattle.why_text.specs.Telling.{AreTold}

module _ (tells : Type 0) (held : Store) (rows : List EquivRow) (setscene : Bool) (plan : Plan) (known : Replan) (ordered : AreOrdered plan.tasks) (current : IsCurrent (looked tells held rows setscene plan.tasks) (record { plan = plan; rows = rows }) known) where
  are : AreNamed rows plan.tasks (names_in known) (unihashes_in known)
  are = record { long = current.made.long; wide = current.made.wide; named = current.made.named; hashed = current.hashed }

  pub over : unihashes_in known ≡ unihashes_over rows plan.tasks
  over = unihashes_over_rows rows plan.tasks (names_in known) (unihashes_in known) ordered are

  -- how the outputs of needed tasks are there
  pub there : tells → (n : ℕ) (s : Signed) (a : Avail) → IsIn (need_in known) n → slice_get (signatures rows plan.tasks) n ≡ Some s → slice_get (avail_in known) n ≡ Some a → IsAvailable held rows setscene s a
  there told n s a member is kept =
      let at = signed_task rows plan.tasks n s is in
      subst (λ (g : SigRecord). IsAvailable held rows setscene (signed_by s.task g) a) (signed_is rows plan.tasks (names_in known) (unihashes_in known) ordered are n s is)
      ((current.needs.known n member).told s.task a at kept s.task at told)

  -- So the text is the one that is meant.
  pub whole : (force : Bool) (text : List ℕ) → tells → IsJudged held rows → AreTold held rows plan (avail_in known) (need_in known) force text → IsWhyText plan held setscene force text
  whole force text told judged lines = record {
    rows = rows;
    judged = judged;
    avail = avail_in known;
    need = need_in known;
    certain = lines.certain;
    needed = current.needs.least;
    there = there told;
    is_certain = lines.is_certain;
    lines = lines.lines;
  }
