-- What is restored on the calling thread, and what is left where nothing more is done.
use Rattle.std.proofs.Common.{◌≡◌, ◌∙◌, sym, ap, subst, ℕ, List, [], length, Some, None, Ok, Err, inl, inr}
use Rattle.std.specs.Prelude.{Bool, Contains, ◌≢◌, ◌⊎◌, IsSome, Option, Result}
use Rattle.meta_model.specs.declared.event.Event.TheVariants as events
use Rattle.meta_model.specs.declared.event.Logged.{Logged}
use Rattle.meta_model.specs.declared.plan.Options.{Options}
use Rattle.meta_model.specs.declared.plan.Plan.{Plan}
use Rattle.tree_model.specs.declared.text.Mem.{Mem}
use Rattle.tale_model.specs.Fates.{HoldsFailure, IsFree, NoneRuns, fates_told, is_running}
use Rattle.tale_model.specs.declared.fate.Fate.{Fate}
use Rattle.run_core.specs.Fates.{SomeRuns}
use Rattle.run_model.specs.Opening.{Opening}
use Rattle.run_model.specs.Outcome.{IsAtEnd}
use Rattle.run_model.specs.Runs.{Runs}
use Rattle.run_queue.specs.declared.fault.RunFault.{RunFault}
use Rattle.run_queue.specs.declared.restoring.Mending.TheVariants as mending
use Rattle.run_queue.specs.declared.state.Claim.{Claim}
use Rattle.run_queue.specs.declared.state.Claim.TheVariants as claim
use Rattle.run_queue.specs.Seen.{RunView, Seen}
use Rattle.run_queue.specs.Turns.{AreHandsFree, Begins, Claims, ClaimsClean, GoesOn, Marks, MendsTo, Settles, fates_of}
use Rattle.build_resume.specs.Drive.{IsHalted, IsTaken, RanSaid}
use Rattle.run_workers.specs.declared.worker.Halt.{Halt}
use Rattle.run_workers.specs.declared.worker.Halt.TheVariants as halts
use Rattle.build_resume.proofs.Halting.{unkept}

-- where no task runs each seat is free
pub free_seat : (fates : List Fate) (seat : ℕ) → NoneRuns fates → IsFree fates seat
free_seat fates seat none t runs = none t (ap is_running runs)

-- a task was settled, or a fault was met: nobody is waited for
pub settled_taken : (t : ℕ) (c : Claim) → (c ≡ claim.Settled t) ⊎ (c ≡ claim.Stopped) → IsTaken c
settled_taken t c (inl is) = subst IsTaken (sym is) tt
settled_taken t c (inr is) = subst IsTaken (sym is) tt

-- a task that was in hand, and is so no more, was marked as restored
pub mended : {D W : Type 0} (seat t : ℕ) (old new : RunView D W) → Contains old.restoring t → MendsTo seat t old new mending.Closed → Marks seat (events.Restored t) old.tale new.tale
mended seat t old new hand (none, inl marks) = marks.0
mended seat t old new hand (none, inr never) = absurd (never.1 hand)

-- a fault that is kept stays so
pub kept_still : {D W : Type 0} (first old : RunView D W) → (IsSome first.fault → old.fault ≡ first.fault) → IsSome first.fault → IsSome old.fault
kept_still first old stays some = subst (λ (f : Option RunFault). IsSome f) (sym (stays some)) some

-- so that no more is left to do
pub never_goes : {D W : Type 0} (first old new : RunView D W) → (IsSome first.fault → old.fault ≡ first.fault) → GoesOn old new → IsSome first.fault → ⊥
never_goes first old new stays goes some = unkept old.fault goes.sound (kept_still first old stays some)

-- and nothing is asked of what that leaves in a course of the run
pub settled_clean : (o : Opening) (waits : Bool) (s : Seen) (t : ℕ) (c : Claim) → (c ≡ claim.Settled t) ⊎ (c ≡ claim.Stopped) → ClaimsClean o waits s (Ok c)
settled_clean o waits s t c (inl is) = subst (λ (x : Claim). ClaimsClean o waits s (Ok x)) (sym is) tt
settled_clean o waits s t c (inr is) = subst (λ (x : Claim). ClaimsClean o waits s (Ok x)) (sym is) tt

-- where no task runs who waits does so for a task that is being restored
pub none_waited : {D W : Type 0} (old new : RunView D W) → NoneRuns (fates_of old) → Claims 0 old new (Ok claim.Wait) → new.restoring ≢ []
none_waited old new none h = elim h.1 [ inl some ↦ absurd (none some.0 some.1) | inr hands ↦ hands ]

-- what was claimed of a state claims the same of one that had its plan, its options and its tale
pub claims_from : {D W : Type 0} (seat : ℕ) (old mid new : RunView D W) (c : Claim) → mid.plan ≡ old.plan → mid.options ≡ old.options → mid.tale ≡ old.tale → Claims seat mid new (Ok c) → Claims seat old new (Ok c)
claims_from seat old mid new (claim.Run job) plan options tale h =
    subst (λ (l : List Logged). Begins seat old.plan.tasks l new.tale job) tale (subst (λ (p : Plan). Begins seat p.tasks mid.tale new.tale job) plan h)
claims_from seat old mid new (claim.Settled t) plan options tale h = subst (λ (l : List Logged). Settles seat t l new.tale) tale h
claims_from seat old mid new (claim.Restore t) plan options tale h = h ∙ tale
claims_from seat old mid new claim.Wait plan options tale h =
    (h.0 ∙ tale, elim h.1 [ inl some ↦ inl (subst (λ (l : List Logged). SomeRuns (fates_told (length old.plan.tasks) l)) tale (subst (λ (p : Plan). SomeRuns (fates_told (length p.tasks) mid.tale)) plan some)) | inr hands ↦ inr hands ], h.2)
claims_from seat old mid new claim.Finished plan options tale h =
    (h.0 ∙ tale, subst (λ (l : List Logged). IsAtEnd old.plan old.options l) tale (subst (λ (x : Options). IsAtEnd old.plan x mid.tale) options (subst (λ (p : Plan). IsAtEnd p mid.options mid.tale) plan h.1)))
claims_from seat old mid new claim.Stopped plan options tale h = (
  h.0 ∙ tale,
  elim h.1 [
    | inl failed ↦
        inl (subst (λ (l : List Logged). HoldsFailure (fates_told (length old.plan.tasks) l)) tale (subst (λ (p : Plan). HoldsFailure (fates_told (length p.tasks) mid.tale)) plan failed.0), ap (λ (x : Options). x.keep_going) (sym options) ∙ failed.1)
    | inr some ↦ inr some
  ],
)

-- where a task is in hand, and no hand is free but for a fault, one is kept
pub kept_in_hand : {D W : Type 0} (s : RunView D W) → s.restoring ≢ [] → AreHandsFree s → IsSome s.fault
kept_in_hand s ne (inl empty) = absurd (ne empty)
kept_in_hand s ne (inr some) = some

-- ---- at the end

-- a fault that is kept besides leaves why a run halted
pub halted_still : {D W : Type 0} (s : RunView D W) (fault : Option RunFault) (h : Halt) → (IsSome s.fault → fault ≡ s.fault) → IsHalted s h → IsHalted (record s { fault = fault }) h
halted_still s fault halts.Finished stays is = is
halted_still s fault halts.Stopped stays (inl failed) = inl failed
halted_still s fault halts.Stopped stays (inr some) = inr (subst (λ (f : Option RunFault). IsSome f) (sym (stays some)) some)
halted_still s fault halts.Memory stays is = is
halted_still s fault halts.Bench stays (inl broke) = inl broke
halted_still s fault halts.Bench stays (inr some) = inr (subst (λ (f : Option RunFault). IsSome f) (sym (stays some)) some)

-- and what had been printed of a run that halted
pub said_still : (plan : Plan) (h : Halt) (fault other : Option RunFault) (from tale : List Logged) (before now : Runs) (base written : List ℕ) → RanSaid plan (Some h) fault from tale before now base written → RanSaid plan (Some h) other from tale before now base written
said_still plan h fault other from tale before now base written said = record {
  front = said.front;
  back = said.back;
  cut = said.cut;
  on = said.on;
  goes = said.goes;
  alone = said.alone;
  runs = said.runs;
  ran = said.ran;
  these = said.these;
  rest = said.rest;
  is = said.is;
  whole = λ none. absurd (let n : Some h ≡ None = none in cc);
}
