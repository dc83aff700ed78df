-- The text of a call, behind the text of its plan.
use Rattle.std.proofs.Common.{◌≡◌, ◌∙◌, ap, sym, subst, refl, ◌⊎◌, inl, inr, ℕ, ◌≤◌, List, [], ◌∷◌, ◌++◌, arith, append_assoc, false}
use Rattle.outside_traits.specs.Fault.{Rose}
use Rattle.meta_model.specs.declared.event.Logged.{Logged}
use Rattle.meta_model.specs.declared.event.Status.{Status}
use Rattle.meta_model.specs.declared.plan.Plan.{Plan}
use Rattle.run_model.specs.Ends.{is_plain}
use Rattle.run_model.specs.Report.{report, run_text}
use Rattle.run_model.specs.Texts.{fault_text, plan_text}
use Rattle.run_model.specs.Written.{WritesFront}
use Rattle.run_model.specs.Build.{RanPrinted}
use Rattle.build_resume.specs.Build.{WritesReport}
use Rattle.answer_model.specs.Answers.{Says}
use Rattle.run_model.specs.Runs.{Runs}
use Rattle.answer_model.specs.Run.{RanPrintedCall, WritesCall}
use Rattle.bitbake_top.proofs.Devices.{rose_from}

-- a front of a text that stands behind another one is a front of both
front_behind : (old mid new first second : List ℕ) → mid ≡ old ++ first → WritesFront mid new second → WritesFront old new (first ++ second)
front_behind old mid new first second whole w = record {
  front = first ++ w.front;
  rest = w.rest;
  cut = ap (λ (l : List ℕ). first ++ l) w.cut ∙ sym (append_assoc first w.front w.rest);
  written = w.written ∙ ap (λ (l : List ℕ). l ++ w.front) whole ∙ append_assoc old first w.front;
}

report_behind : (base mid now : List ℕ) (before from after : ℕ) (plan : Plan) (tale : List Logged) (s : Status) → before ≤ from → mid ≡ base ++ plan_text plan
    → WritesReport (Rose from after) mid now plan tale s → (now ≡ base ++ report plan tale s) ⊎ (Rose before after × (is_plain s ≡ false) × ((met : Status) × WritesFront base now (report plan tale met)))
report_behind base mid now before from after plan tale s lt said (inl whole) = inl (whole ∙ ap (λ (l : List ℕ). l ++ run_text plan tale s) said ∙ append_assoc base (plan_text plan) (run_text plan tale s))
report_behind base mid now before from after plan tale s lt said (inr failed) =
    inr (rose_from before from after lt failed.0, failed.1, (failed.2.0, front_behind base mid now (plan_text plan) (run_text plan tale failed.2.0) said failed.2.1))

-- the text of a run stands behind the text of its plan
pub begun_text : (base mid now : List ℕ) (before from after : ℕ) (plan : Plan) (plans : List Plan) (tale : List Logged) (tales : List (List Logged)) (s : Status) → plans ≡ plan ∷ [] → tales ≡ tale ∷ []
    → before ≤ from → mid ≡ base ++ plan_text plan → WritesReport (Rose from after) mid now plan tale s → WritesCall (Rose before after) base now plans tales s
begun_text base mid now before from after plan plans tale tales s one_plan one_tale lt said w =
    subst (λ (p : List Plan). WritesCall (Rose before after) base now p tales s) (sym one_plan)
    (subst (λ (t : List (List Logged)). WritesCall (Rose before after) base now (plan ∷ []) t s) (sym one_tale) (report_behind base mid now before from after plan tale s lt said w))

refused_line : (base now : List ℕ) (before after : ℕ) (plans : List Plan) (s : Status) → Says (fault_text s) base now before after → WritesCall (Rose before after) base now plans [] s
refused_line base now before after plans s (inl whole) = inl whole
refused_line base now before after plans s (inr failed) = inr (failed.0, inl failed.1)

-- where no run was begun, what was written is the line of a refusal
pub unbegun_text : (base now : List ℕ) (before after : ℕ) (plans : List Plan) (tales : List (List Logged)) (s : Status) → tales ≡ [] → Says (fault_text s) base now before after → WritesCall (Rose before after) base now plans tales s
unbegun_text base now before after plans tales s none said = subst (λ (t : List (List Logged)). WritesCall (Rose before after) base now plans t s) (sym none) (refused_line base now before after plans s said)

-- where the plan's text failed, a front of that was written
pub plan_front : (base now : List ℕ) (failed : Type 0) (plan : Plan) (plans : List Plan) (tales : List (List Logged)) (s : Status) → plans ≡ plan ∷ [] → tales ≡ [] → failed → WritesFront base now (plan_text plan) → WritesCall failed base now plans tales s
plan_front base now failed plan plans tales s one none fails front =
    subst (λ (p : List Plan). WritesCall failed base now p tales s) (sym one)
    (subst (λ (t : List (List Logged)). WritesCall failed base now (plan ∷ []) t s) (sym none) (inr (fails, inr (plan, (0, omega arith, refl), front))))

-- what the benches of one run ran had been printed behind the plan's text
pub printed_one : (base now : List ℕ) (plan : Plan) (plans : List Plan) (tale : List Logged) (tales : List (List Logged)) (before after : List Runs) → plans ≡ plan ∷ [] → tales ≡ tale ∷ []
    → RanPrinted plan tale before after (base ++ plan_text plan) now → RanPrintedCall plans tales before after base now
printed_one base now plan plans tale tales before after one_plan one_tale ran =
    subst (λ (p : List Plan). RanPrintedCall p tales before after base now) (sym one_plan) (subst (λ (t : List (List Logged)). RanPrintedCall (plan ∷ []) t before after base now) (sym one_tale) ran)
