-- What was written of a run's report.
use Rattle.std.proofs.Common.{◌≡◌, sym, subst, refl, ℕ, ◌≤◌, List, [], Bool, true, false, arith, append-nil, inr}
use Rattle.outside_traits.specs.Fault.{Counts, Rose}
use Rattle.meta_model.specs.declared.event.Logged.{Logged}
use Rattle.meta_model.specs.declared.event.Status.{Status}
use Rattle.meta_model.specs.declared.plan.Plan.{Plan}
use Rattle.run_model.specs.Ends.{is_plain}
use Rattle.run_model.specs.Report.{last_line, tale_text}
use Rattle.bb_report.proofs.Chains.{front_first}
use Rattle.run_queue.specs.Keeps.{Prints}
use Rattle.build_resume.specs.Build.{WritesReport}

-- to a sink that had failed nothing more is written
pub reports_cut : (plan : Plan) (tale : List Logged) (base now : List ℕ) (before count : ℕ) (s : Status) → is_plain s ≡ false → Prints base now (tale_text plan.tasks tale) true → Counts before count true → WritesReport (Rose before count) base now plan tale s
reports_cut plan tale base now before count s apart prints counts = inr (counts.rose, apart, (s, front_first base now (tale_text plan.tasks tale) (last_line plan tale s) prints.front))

-- a sink that rose stays risen
pub rose_from : (before mid now : ℕ) → before ≤ mid → Rose mid now → Rose before now
rose_from before mid now lt rose = omega (arith, lt, rose)

pub rose_on : (before now later : ℕ) → Rose before now → now ≤ later → Rose before later
rose_on before now later rose le = omega (arith, rose, le)

-- nothing was written yet
pub prints_first : (plan : Plan) (tale : List Logged) (now : List ℕ) (failed : Bool) → failed ≡ false → tale ≡ [] → Prints now now (tale_text plan.tasks tale) failed
prints_first plan tale now failed stands none =
    subst (λ (b : Bool). Prints now now (tale_text plan.tasks tale) b) (sym stands)
    (subst (λ (l : List Logged). Prints now now (tale_text plan.tasks l) false) (sym none) (record { whole = sym (append-nil now); front = tt }))

pub counts_first : (count : ℕ) (failed : Bool) → failed ≡ false → Counts count count failed
counts_first count failed stands = subst (λ (b : Bool). Counts count count b) (sym stands) (record { later = omega arith; rose = tt; stayed = refl })

-- a report by what is left of a run
pub reports_as : {failed : Type 0} (plan other : Plan) (tale said : List Logged) (old new : List ℕ) (s : Status) → other ≡ plan → said ≡ tale → WritesReport failed old new other said s → WritesReport failed old new plan tale s
reports_as {failed} plan other tale said old new s plan_is tale_is w = subst (λ (l : List Logged). WritesReport failed old new plan l s) tale_is (subst (λ (p : Plan). WritesReport failed old new p said s) plan_is w)
