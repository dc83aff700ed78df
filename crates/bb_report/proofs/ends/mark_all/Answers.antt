use Rattle.std.proofs.Common.{sym, subst, take, length, List, ℕ, ◌+◌}
use Rattle.std.proofs.lemmas.List.{take_more}
use Rattle.meta_model.specs.declared.event.Logged.{Logged}
use Rattle.bb_report.specs.Runs.{AreMarks}
use Rattle.bb_report.proofs.ends.mark_all.Goals as goal

pub loop-logged-preserved : goal.loop-logged-preserved
loop-logged-preserved c =
    let h = c.mark.ensures (take c.loop-logged.logged-index c.args.tale.now) c.loop-logged.invariant in
    subst (λ (n : ℕ). AreMarks (take (c.loop-logged.logged-index + 1) c.args.tale.now) n c.mark.new.marks) (sym c.mark.auto.marks)
    (subst (λ (l : List Logged). AreMarks l (length c.loop-logged.marks) c.mark.new.marks) (sym (take_more c.args.tale.now c.loop-logged.logged-index _ c.loop-logged-test.true)) h)
