-- What a try of a claim did, told of the state before nothing was marked.
use Rattle.std.proofs.Common.{◌≡◌, ◌∙◌, sym, ap, subst, refl, ℕ, arith, Bool, false, List, [], ◌∷◌, ◌++◌, length, take, Some, None, Ok, Err, inl, inr}
use Rattle.std.specs.Prelude.{Contains, Option, Result}
use Rattle.std.specs.List.{slice_get}
use Rattle.std.proofs.lemmas.List.{take_all}
use Rattle.outside_traits.specs.Story.{Story}
use Rattle.tree_model.specs.declared.text.Mem.{Mem}
use Rattle.meta_model.specs.declared.event.Logged.{Logged}
use Rattle.meta_model.specs.declared.plan.Options.{Options}
use Rattle.meta_model.specs.declared.plan.Plan.{Plan}
use Rattle.tale_model.specs.Choice.{IsFinished}
use Rattle.run_core.specs.Choice.{CannotGoOn, MayAnswer, MayAnswerBeside}
use Rattle.run_core.specs.declared.next.Next.{Next}
use Rattle.run_core.specs.declared.next.Next.TheVariants as next
use Rattle.tale_model.specs.Fates.{IsFree, fates_told}
use Rattle.tale_model.specs.History.{Course, EachAfter}
use Rattle.run_core.specs.History.{IsOrderly}
use Rattle.tale_model.specs.Need.{IsNeed}
use Rattle.run_core.proofs.Agreeing.{answer_across}
use Rattle.run_model.specs.Opening.{Opening}
use Rattle.run_model.specs.Courses.{IsCourse, IsThere}
use Rattle.run_queue.specs.declared.state.Claim.{Claim}
use Rattle.run_queue.specs.declared.state.Claim.TheVariants as claim
use Rattle.run_queue.specs.Keeps.{IsRun, IsUpToDate}
use Rattle.run_queue.specs.Seen.{Known, RunView, Seen, seen}
use Rattle.run_queue.specs.Turns.{ClaimsClean, Looks, RestoresBy, TurnsClean, TurnsRestore, TurnsTo, fates_of}
use Rattle.run_queue.proofs.Agreement.{agreement}
use Rattle.run_queue.proofs.Claiming.{agree_waiting}

-- plan, options, sink and tale are the same, and what is being restored, and whether an end waits for that
pub record SameTold {D W : Type 0} (old new : RunView D W) : Type 0 where
  pub plan : new.plan ≡ old.plan
  pub options : new.options ≡ old.options
  pub sink : new.sink ≡ old.sink
  pub sink_failed : new.sink_failed ≡ old.sink_failed
  pub tale : new.tale ≡ old.tale
  pub restoring : new.restoring ≡ old.restoring
  pub ends_wait : new.ends_wait ≡ old.ends_wait

pub told_by_look : {D W : Type 0} (old new : RunView D W) → Looks old new → SameTold old new
told_by_look old new l = record { plan = l.plan; options = l.options; sink = l.sink; sink_failed = l.sink_failed; tale = l.tale; restoring = l.restoring; ends_wait = l.ends_wait }

-- nor does a try that answers nothing
pub told_by_try : {D W : Type 0} (seat : ℕ) (first old new : RunView D W) (answer : Option Claim) → SameTold first old → TurnsTo seat old new (Ok answer) → ((c : Claim) → answer ≡ Some c → ⊥) → SameTold first new × (new.fault ≡ None)
told_by_try seat first old new None same t none =
    (record { plan = t.plan ∙ same.plan; options = t.options ∙ same.options; sink = t.sink ∙ same.sink; sink_failed = t.sink_failed ∙ same.sink_failed; tale = t.tale ∙ same.tale; restoring = t.restoring ∙ same.restoring; ends_wait = t.ends_wait ∙ same.ends_wait }, t.fault)
told_by_try seat first old new (Some c) same t none = absurd (none c refl)

module _ {D W : Type 0} (old mid : RunView D W) (same : SameTold old mid) where
  fates_same : fates_of mid ≡ fates_of old
  fates_same = λ i. fates_told (length (same.plan i).tasks) (same.tale i)

  pub free_on : (seat : ℕ) → IsFree (fates_of old) seat → IsFree (fates_of mid) seat
  free_on seat free = subst (λ l. IsFree l seat) (sym fates_same) free

  pub clean_from : (story : D → Story) (written : W → List ℕ) (o : Opening) (r : Result Claim Mem) → ClaimsClean o mid.ends_wait (seen story written mid) r → ClaimsClean o old.ends_wait (seen story written old) r
  clean_from story written o (Ok (claim.Run job)) c = record {
    task = c.task;
    is_task = subst (λ (p : Plan). slice_get p.tasks job.task ≡ Some c.task) same.plan c.is_task;
    outputs = c.outputs;
    numbers = c.numbers;
    clean = subst (λ (p : Plan). Rattle.run_model.specs.CleanOutputs.AreClean o.gives p.tasks c.outputs) same.plan c.clean;
    script = c.script;
    layout = subst (λ (p : Plan). job.layout ≡ Rattle.run_model.specs.Layouts.layout_over p.tasks c.task c.outputs) same.plan c.layout;
    placing = c.placing;
    within = c.within;
  }
  clean_from story written o (Ok (claim.Settled t)) c = tt
  clean_from story written o (Ok (claim.Restore t)) c = tt
  clean_from story written o (Ok claim.Wait) c = λ empty quiet. idle (same.restoring ∙ empty) (same.ends_wait ∙ quiet)
    where
      Idle : Plan → Options → List Logged → Type 0
      Idle p x l = (course : Course) → course.plan ≡ p → IsCourse o x l course → (t : ℕ) → CannotGoOn p.tasks (course.need (length l)) (course.avail (length l)) (fates_told (length p.tasks) l) t

      idle : mid.restoring ≡ [] → mid.ends_wait ≡ false → Idle old.plan old.options old.tale
      idle empty quiet = subst (λ (l : List Logged). Idle old.plan old.options l) same.tale (subst (λ (x : Options). Idle old.plan x mid.tale) same.options (subst (λ (p : Plan). Idle p mid.options mid.tale) same.plan (c empty quiet)))
  clean_from story written o (Ok claim.Finished) c = at_end
    where
      Ends : Plan → Options → List Logged → Type 0
      Ends p x l = (course : Course) → course.plan ≡ p → IsCourse o x l course → IsFinished x p.tasks (course.need (length l)) (course.avail (length l)) (fates_told (length p.tasks) l)

      at_end : Ends old.plan old.options old.tale
      at_end = subst (λ (l : List Logged). Ends old.plan old.options l) same.tale (subst (λ (x : Options). Ends old.plan x mid.tale) same.options (subst (λ (p : Plan). Ends p mid.options mid.tale) same.plan c))
  clean_from story written o (Ok claim.Stopped) c = tt
  clean_from story written o (Err e) c = tt

pub turns_clean_from : {D W : Type 0} (old mid : RunView D W) → SameTold old mid → (story : D → Story) (written : W → List ℕ) (o : Opening) (r : Result (Option Claim) Mem) → TurnsClean o mid.ends_wait (seen story written mid) r → TurnsClean o old.ends_wait (seen story written old) r
turns_clean_from old mid same story written o (Ok (Some c)) t = clean_from old mid same story written o (Ok c) t
turns_clean_from old mid same story written o (Ok None) t = tt
turns_clean_from old mid same story written o (Err e) t = tt

-- ---- what is being restored

pub restores_from : {D W : Type 0} (old mid new : RunView D W) → SameTold old mid → (r : Result Claim Mem) → RestoresBy mid new r → RestoresBy old new r
restores_from old mid new same (Ok (claim.Run job)) h = elim h [ inl e ↦ inl (e ∙ same.restoring) | inr some ↦ inr some ]
restores_from old mid new same (Ok (claim.Settled t)) h = elim h [ inl e ↦ inl (e ∙ same.restoring) | inr some ↦ inr some ]
restores_from old mid new same (Ok (claim.Restore t)) h = h ∙ ap (λ (l : List ℕ). l ++ t ∷ []) same.restoring
restores_from old mid new same (Ok claim.Wait) h = elim h [ inl e ↦ inl (e ∙ same.restoring) | inr some ↦ inr some ]
restores_from old mid new same (Ok claim.Finished) h = elim h [ inl e ↦ inl (e ∙ same.restoring) | inr some ↦ inr some ]
restores_from old mid new same (Ok claim.Stopped) h = elim h [ inl e ↦ inl (e ∙ same.restoring) | inr some ↦ inr some ]
restores_from old mid new same (Err e) h = elim h [ inl e ↦ inl (e ∙ same.restoring) | inr some ↦ inr some ]

pub turns_restore_from : {D W : Type 0} (old mid new : RunView D W) → SameTold old mid → (r : Result (Option Claim) Mem) → TurnsRestore mid new r → TurnsRestore old new r
turns_restore_from old mid new same (Ok (Some c)) h = restores_from old mid new same (Ok c) h
turns_restore_from old mid new same (Ok None) h = tt
turns_restore_from old mid new same (Err e) h = restores_from old mid new same (Err e) h

-- ---- the end of a run

-- What may be answered by what is known may be so in each course.
answer_clean : (o : Opening) (s : Seen) (k : Known) (answer : Next) → IsRun o s → EachAfter (IsOrderly s.plan.tasks) s.tale → s.known ≡ Some k → IsUpToDate s.plan s.rows k
    → MayAnswer s.options s.plan.tasks k.need k.avail (fates_told (length s.plan.tasks) s.tale) answer → (course : Course) → course.plan ≡ s.plan → IsCourse o s.options s.tale course
    → MayAnswer s.options s.plan.tasks (course.need (length s.tale)) (course.avail (length s.tale)) (fates_told (length s.plan.tasks) s.tale) answer
answer_clean o s k answer run orderly known now may course same is =
    let n : ℕ = length s.tale in
    let whole : take n s.tale ≡ s.tale = take_all n s.tale (omega arith) in
    let there : IsThere o s.plan s.options s.tale (course.avail n) =
    subst (λ (p : Plan). IsThere o p s.options s.tale (course.avail n)) same (subst (λ (l : List Logged). IsThere o course.plan s.options l (course.avail n)) whole (is.there n (omega arith))) in
    let needed = subst (λ (p : Plan). IsNeed p (course.avail n) (course.need n)) same (is.needed n (omega arith)) in
    let agree = agree_waiting k.need (course.need n) k.avail (course.avail n) (fates_told (length s.plan.tasks) s.tale) (agreement o s k run orderly known now (course.avail n) (course.need n) there needed) in
    answer_across s.plan.tasks k.need (course.need n) k.avail (course.avail n) (fates_told (length s.plan.tasks) s.tale) now.need.closed.dependencies agree s.options answer may

-- What is finished by what is known is so in each course.
pub finished_clean : (o : Opening) (s : Seen) (k : Known) → IsRun o s → EachAfter (IsOrderly s.plan.tasks) s.tale → s.known ≡ Some k → IsUpToDate s.plan s.rows k
    → MayAnswer s.options s.plan.tasks k.need k.avail (fates_told (length s.plan.tasks) s.tale) next.Finished → (waits : Bool) → ClaimsClean o waits s (Ok claim.Finished)
finished_clean o s k run orderly known now may waits = answer_clean o s k next.Finished run orderly known now may

-- Where no task can go on by what is known, and none is being restored, none can in each course.
pub wait_clean : (o : Opening) (s : Seen) (k : Known) → IsRun o s → EachAfter (IsOrderly s.plan.tasks) s.tale → s.known ≡ Some k → IsUpToDate s.plan s.rows k
    → MayAnswerBeside s.options s.plan.tasks k.need k.avail (fates_told (length s.plan.tasks) s.tale) s.restoring next.Wait → (waits : Bool) → ClaimsClean o waits s (Ok claim.Wait)
wait_clean o s k run orderly known now may waits empty quiet course same is =
    (answer_clean o s k next.Wait run orderly known now (elim may.0 [ inl some ↦ some | inr ne ↦ absurd (ne empty) ], λ t. elim (may.1 t) [ inl hand ↦ absurd (none_in t (subst (λ (l : List ℕ). Contains l t) empty hand)) | inr it ↦ it ]) course same is).1
  where
    none_in : (t : ℕ) → Contains {X = ℕ} [] t → ⊥
    none_in t c = let lt = c.1 in omega (arith, lt)
