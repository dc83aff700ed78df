use Rattle.std.proofs.Common.{◌≡◌, ◌∙◌, sym, ap, subst, List, ◌++◌, ℕ, append_assoc, length}
use Rattle.std.specs.Prelude.{codes}
use Rattle.bb_report.specs.Runs.{AreMarks, marked}
use Rattle.run_model.specs.Report.{comma_joined, failed_from}
use Rattle.bb_report.proofs.Marks.{failed_text}
use Rattle.bb_report.proofs.ends.line_of_failed.Goals as goal

pub returns : goal.returns
returns c =
    let tasks = c.args.tasks.now in
    let are = subst (AreMarks c.args.tale.now (length tasks)) (sym c.deref.ensures.value) c.in_ok-marks.ensures in
    let joined : comma_joined (marked tasks c.deref.result.now) ≡ comma_joined (failed_from c.args.tale.now 0 tasks) = failed_text c.args.tale.now tasks c.deref.result.now are in
    c.in_ok-push_str.ensures.ok
    ∙ ap (λ (l : List ℕ). l ++ codes "\n") (c.in_ok-push_marked.ensures ∙ ap (λ (l : List ℕ). c.in_ok-made.made ++ l) joined ∙ ap (λ (l : List ℕ). l ++ comma_joined (failed_from c.args.tale.now 0 tasks)) c.in_ok-made.ensures)
    ∙ append_assoc (codes "fault 1 failed: ") (comma_joined (failed_from c.args.tale.now 0 tasks)) (codes "\n")
