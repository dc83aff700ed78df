-- Why tasks would run, by what is known of them.
use Rattle.std.proofs.Common.{◌≡◌, ◌∙◌, sym, ap, subst, refl, ℕ, ◌<◌, Bool, true, false, List, Contains, length, get_or, Some, slice_get, inl, inr}
use Rattle.std.specs.Prelude.{replicate}
use Rattle.std.proofs.lemmas.Bool.{false≢true}
use Rattle.std.proofs.lemmas.List.{length-replicate}
use Rattle.std.proofs.lemmas.Option.{same_Some, slice_get-get_or}
use Rattle.outside_traits.specs.Store.{Store}
use Rattle.tree_model.specs.declared.hash.Hash.{Hash}
use Rattle.meta_model.specs.declared.event.Avail.{Avail}
use Rattle.meta_model.specs.declared.plan.Plan.{Plan}
use Rattle.meta_model.specs.declared.plan.PlanTask.{PlanTask}
use Rattle.store_model.specs.declared.signature.EquivRow.{EquivRow}
use Rattle.store_model.specs.declared.signature.SigRecord.{SigRecord}
use Rattle.store_model.specs.Signatures.{Signed, signatures}
use Rattle.tale_model.specs.Need.{IsIn}
use Rattle.run_core.specs.Need.{AreOrdered}
use Rattle.sig_gen.specs.Signing.{signature_by}
use Rattle.setscene_plan.specs.Names.{unihashes_over}
use Rattle.setscene_plan.specs.Sets.{Adds}
use Rattle.setscene_plan.proofs.Naming.{signed_over, signed_task}
use Rattle.why_model.specs.declared.fate.Cause.{Cause}
use Rattle.why_model.specs.declared.fate.Cause.TheVariants as cause
use Rattle.why_model.specs.Seen.{seen_over, waits_of}
use Rattle.why_model.specs.Fates.{IsCause, Told}
use Rattle.why_text.specs.Telling.{AreMarked, IsCauseAt, IsChangedCause, told_of}
use Rattle.why_text.proofs.CertainTasks.{none_in}

-- ---- the option `-f`

pub marked_none : (plan : Plan) (marks : List Bool) → marks ≡ replicate (length plan.tasks) false → AreMarked false plan marks
marked_none plan marks is = record {
  long = ap (λ m. length m) is ∙ length-replicate (length plan.tasks) false;
  marked = λ n member. absurd (none_in (length plan.tasks) n (subst (λ m. IsIn m n) is member));
  whole = λ n force target. absurd (false≢true force);
}

pub marked_all : (plan : Plan) (none marks : List Bool) → none ≡ replicate (length plan.tasks) false → Adds (Contains plan.targets) none marks → AreMarked true plan marks
marked_all plan none marks is adds = record {
  long = adds.long ∙ ap (λ m. length m) is ∙ length-replicate (length plan.tasks) false;
  marked = λ n member. elim (adds.only n member) [ inl old ↦ absurd (none_in (length plan.tasks) n (subst (λ m. IsIn m n) is old)) | inr target ↦ (refl, target) ];
  whole = λ n force target. adds.put n target;
}

-- ---- causes

pub cause_here : (told : Told) (n : ℕ) (s : Signed) (why : Cause) → s.task.nostamp ≡ false → IsChangedCause told.held told.rows s.task s.sig why → IsCause told n s why
cause_here told n s why kept (inl none) = subst (IsCause told n s) (sym none.1) (kept, none.0)
cause_here told n s cause.Forced kept (inr by) = absurd by.2
cause_here told n s cause.Always kept (inr by) = absurd by.2
cause_here told n s cause.New kept (inr by) = absurd by.2
cause_here told n s cause.Gone kept (inr by) = (kept, by)
cause_here told n s (cause.Differs names) kept (inr by) = (kept, (by.0, by.1, by.2.0, by.2.1))

-- what is known of the task of a plan is so of its signature's task
task_is : (rows : List EquivRow) (tasks : List PlanTask) (n : ℕ) (task : PlanTask) (s : Signed) → slice_get tasks n ≡ Some task → slice_get (signatures rows tasks) n ≡ Some s → task ≡ s.task
task_is rows tasks n task s at is = same_Some task s.task (sym at ∙ signed_task rows tasks n s is)

pub changed_at : (held : Store) (rows : List EquivRow) (plan : Plan) (there : List Avail) (certain : List Bool) (force : Bool) (unihashes : List Hash) (n : ℕ) (task : PlanTask) (why : Cause) → AreOrdered plan.tasks → unihashes ≡ unihashes_over rows plan.tasks
    → slice_get plan.tasks n ≡ Some task → task.nostamp ≡ false → IsChangedCause held rows task (signature_by plan.tasks unihashes task) why → IsCauseAt (told_of held rows plan there certain force) n why
changed_at held rows plan there certain force unihashes n task why ordered over at kept changes s is =
    let same = task_is rows plan.tasks n task s at is in
    let own : IsChangedCause held rows s.task (signature_by plan.tasks unihashes s.task) why = subst (λ (t : PlanTask). IsChangedCause held rows t (signature_by plan.tasks unihashes t) why) same changes in
    cause_here (told_of held rows plan there certain force) n s why (sym (ap (λ (t : PlanTask). t.nostamp) same) ∙ kept)
    (subst (λ (g : SigRecord). IsChangedCause held rows s.task g why) (signed_over rows plan.tasks unihashes ordered over n s is) own)

pub forced_at : (held : Store) (rows : List EquivRow) (plan : Plan) (there : List Avail) (certain forced : List Bool) (force : Bool) (n : ℕ) (task : PlanTask) → slice_get plan.tasks n ≡ Some task → task.nostamp ≡ true → AreMarked force plan forced → IsIn forced n
    → IsCauseAt (told_of held rows plan there certain force) n cause.Forced
forced_at held rows plan there certain forced force n task at always marked member s is =
    (sym (ap (λ (t : PlanTask). t.nostamp) (task_is rows plan.tasks n task s at is)) ∙ always, marked.marked n member)

pub always_at : (held : Store) (rows : List EquivRow) (plan : Plan) (there : List Avail) (certain forced : List Bool) (force : Bool) (n : ℕ) (task : PlanTask) → slice_get plan.tasks n ≡ Some task → task.nostamp ≡ true → AreMarked force plan forced → (IsIn forced n → ⊥)
    → IsCauseAt (told_of held rows plan there certain force) n cause.Always
always_at held rows plan there certain forced force n task at always marked none s is =
    (sym (ap (λ (t : PlanTask). t.nostamp) (task_is rows plan.tasks n task s at is)) ∙ always, λ h. none (marked.whole n h.0 h.1))

-- what a place of a list of flags that is false says
pub not_in : (set : List Bool) (n : ℕ) → n < length set → get_or set n false ≡ false → IsIn set n → ⊥
not_in set n lt is member = false≢true (sym is ∙ same_Some (get_or set n false) true (sym (slice_get-get_or set n false lt) ∙ member))

-- ---- fates of tasks whose outputs are missing

pub waits_here : (rows : List EquivRow) (plan : Plan) (seen : List Bool) (n : ℕ) (task : PlanTask) (s : Signed) (waits : List ℕ) → slice_get plan.tasks n ≡ Some task → seen ≡ seen_over rows plan.tasks → waits ≡ waits_of seen task → slice_get (signatures rows plan.tasks) n ≡ Some s → waits ≡ waits_of (seen_over rows plan.tasks) s.task
waits_here rows plan seen n task s waits at over made is =
    made ∙ ap (λ (x : List Bool). waits_of x task) over ∙ ap (λ (t : PlanTask). waits_of (seen_over rows plan.tasks) t) (task_is rows plan.tasks n task s at is)
