-- What every state keeps, it keeps as tasks come into hand, as an end waits for them, and as a fault is met.
use Rattle.std.proofs.Common.{◌≡◌, ◌∙◌, sym, ap, subst, refl, ℕ, ◌<◌, ◌≤◌, Bool, List, [], ◌∷◌, ◌++◌, length, Some, None, Ok, Err, inl, inr, arith, length-append}
use Rattle.std.specs.Prelude.{Contains, IfSome, IsSome, Option, Result}
use Rattle.std.proofs.lemmas.Bool.{false≢true}
use Rattle.std.proofs.lemmas.List.Elements.{Contains-push_cases}
use Rattle.meta_model.specs.declared.event.Avail.{Avail}
use Rattle.build_store.specs.View.{View}
use Rattle.build_store.specs.declared.fault.StoreFault.TheVariants as fault_of
use Rattle.meta_model.specs.declared.plan.Plan.{Plan}
use Rattle.store_model.specs.declared.signature.EquivRow.{EquivRow}
use Rattle.run_queue.specs.declared.fault.RunFault.{RunFault}
use Rattle.run_queue.specs.declared.fault.RunFault.TheVariants as ends
use Rattle.tree_model.specs.declared.text.Mem.{Mem}
use Rattle.task_worker.specs.declared.given.Given.{Given}
use Rattle.run_queue.specs.declared.closing.Ending.{Ending}
use Rattle.run_queue.specs.declared.closing.Ending.TheVariants as ending
use Rattle.run_queue.specs.Causes.{IsCause}
use Rattle.run_queue.specs.Keeps.{IsState, IsUpToDate}
use Rattle.run_queue.specs.Seen.{RunView}
use Rattle.run_queue.specs.Turns.{EndsTurn}

-- a state in which other tasks are being restored
pub hands_state : {D W : Type 0} (count : ℕ) (s : RunView D W) (hands : List ℕ) → length hands ≤ s.plan.threads → ((t : ℕ) → Contains hands t → t < length s.plan.tasks) → IsState count s → IsState count (record s { restoring = hands })
hands_state count s hands few among is = record {
  sound = is.sound;
  long = is.long;
  few = few;
  among = among;
  orderly = is.orderly;
  current = is.current;
  unharmed = is.unharmed;
  clean = is.clean;
  heard = is.heard;
  unbroken = is.unbroken;
  cause = is.cause;
}

-- a state in which an end waits, or waits no more
pub waits_state : {D W : Type 0} (count : ℕ) (s : RunView D W) (waits : Bool) → IsState count s → IsState count (record s { ends_wait = waits })
waits_state count s waits is = record {
  sound = is.sound;
  long = is.long;
  few = is.few;
  among = is.among;
  orderly = is.orderly;
  current = is.current;
  unharmed = is.unharmed;
  clean = is.clean;
  heard = is.heard;
  unbroken = is.unbroken;
  cause = is.cause;
}

pub waits_same : {D W : Type 0} (s other : RunView D W) (waits : Bool) → s ≡ other → record s { ends_wait = waits } ≡ record other { ends_wait = waits }
waits_same {D} {W} s other waits same = ap (λ (v : RunView D W). record v { ends_wait = waits }) same

-- a state in which a fault is kept, with its cause
pub fault_state : {D W : Type 0} (count now : ℕ) (s : RunView D W) (store : View D) (begun : List (Option Avail)) (hands : List ℕ) (fault : Option RunFault) → IsState count s → IsSome fault → length begun ≡ length s.begun → length hands ≤ s.plan.threads → ((t : ℕ) → Contains hands t → t < length s.plan.tasks)
    → IfSome s.known (IsUpToDate s.plan store.rows) → IfSome fault (IsCause now s.plan store.rows s.sink_failed) → IsState now (record s { store = store; begun = begun; restoring = hands; fault = fault })
fault_state count now s store begun hands fault is kept long few among known cause = record {
  sound = is.sound;
  long = long ∙ is.long;
  few = few;
  among = among;
  orderly = is.orderly;
  current = known;
  unharmed = λ none. absurd (never none);
  clean = λ none. absurd (never none);
  heard = λ none. absurd (never none);
  unbroken = λ none. absurd (never none);
  cause = cause;
}
  where
    never : fault ≡ None → ⊥
    never none = false≢true (subst (λ (x : Option RunFault). IsSome x) none kept)

-- one more task of the plan in hand
pub more_hands : (hands : List ℕ) (t count : ℕ) → ((u : ℕ) → Contains hands u → u < count) → t < count → (u : ℕ) → Contains (hands ++ t ∷ []) u → u < count
more_hands hands t count among lt u hand = elim (Contains-push_cases hands t u hand) [
  | inl was_there ↦ among u was_there
  | inr same ↦ subst (λ (n : ℕ). n < count) same lt
]

-- so that there are no more than so many
pub one_more : (hands : List ℕ) (t most : ℕ) → length hands < most → length (hands ++ t ∷ []) ≤ most
one_more hands t most lt = omega (arith, length-append hands (t ∷ []), lt)

-- want of memory, which is kept unless a fault was
module _ (old new : Option RunFault) (first : old ≡ None → new ≡ Some (ends.Store fault_of.Memory)) (later : IsSome old → new ≡ old) where
  pub memory_kept : IsSome new
  memory_kept = by old refl
    where
      by : (f : Option RunFault) → old ≡ f → IsSome new
      by None e = subst (λ (x : Option RunFault). IsSome x) (sym (first e)) refl
      by (Some f) e = let some = subst (λ (x : Option RunFault). IsSome x) (sym e) refl in subst (λ (x : Option RunFault). IsSome x) (sym (later some)) some

  pub memory_cause : (count : ℕ) (plan : Plan) (rows : List EquivRow) (failed : Bool) → IfSome old (IsCause count plan rows failed) → IfSome new (IsCause count plan rows failed)
  memory_cause count plan rows failed was = by old refl
    where
      by : (f : Option RunFault) → old ≡ f → IfSome new (IsCause count plan rows failed)
      by None e = subst (λ (x : Option RunFault). IfSome x (IsCause count plan rows failed)) (sym (first e)) tt
      by (Some f) e = subst (λ (x : Option RunFault). IfSome x (IsCause count plan rows failed)) (sym (later (subst (λ (x : Option RunFault). IsSome x) (sym e) refl))) was

-- ---- whether an end waits

-- What a turn of a job comes to, it comes to from a state in which an end waited or not.
pub ends_from : {D W : Type 0} (seat t : ℕ) (given : Option Given) (old mid new : RunView D W) (waits : Bool) (r : Result Ending Mem) → mid ≡ record old { ends_wait = waits } → EndsTurn seat t given mid new r → EndsTurn seat t given old new r
ends_from {D} {W} seat t given old mid new waits (Err e) same h = subst (λ (v : RunView D W). EndsTurn seat t given v new (Err e)) same h
ends_from {D} {W} seat t given old mid new waits (Ok ending.More) same h = record { tale = h.tale ∙ ap (λ (v : RunView D W). v.tale) same; sound = sym (ap (λ (v : RunView D W). v.fault) same) ∙ h.sound; fault = h.fault }
ends_from {D} {W} seat t given old mid new waits (Ok ending.Wait) same h = record { tale = h.tale ∙ ap (λ (v : RunView D W). v.tale) same; sound = sym (ap (λ (v : RunView D W). v.fault) same) ∙ h.sound; fault = h.fault }
ends_from {D} {W} seat t given old mid new waits (Ok ending.Closed) same h = subst (λ (v : RunView D W). EndsTurn seat t given v new (Ok ending.Closed)) same h
