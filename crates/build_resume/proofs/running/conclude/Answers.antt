use Rattle.std.proofs.Common.{◌∙◌, sym, ap, inl, inr}
use Rattle.run_model.specs.Report.{has_failure}
use Rattle.run_model.specs.Ends.{is_plain}
use Rattle.build_resume.specs.Ends.{status_by}
use Rattle.build_resume.proofs.running.conclude.Goals as goal

pub returns-in-Err-clause-text : goal.returns-in-Err-clause-text
returns-in-Err-clause-text g c told base before prints counts = c.want_unless-status.ensures.text told c.args.parts.plan c.args.parts.tale.items base before prints counts

pub returns-in-Err-clause-later : goal.returns-in-Err-clause-later
returns-in-Err-clause-later g c = c.want_unless-status.ensures.later

pub returns-in-Err-clause-status : goal.returns-in-Err-clause-status
returns-in-Err-clause-status g c = elim c.want_unless-status.ensures.ends [
  | inl memory ↦ inr (inl memory)
  | inr write ↦ inr (inr (write.0, ap is_plain (ap (λ l. status_by c.args.parts.fault c.args.halt (has_failure l)) (sym c.as_slice.ensures.value) ∙ sym c.status_of_run-status.ensures ∙ c.in-Err.ensures.wanting), inl write.1))
]
