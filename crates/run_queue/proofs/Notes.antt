-- An event that doesn't settle a running task leaves what every state keeps.
use Rattle.std.proofs.Common.{◌≡◌, ◌∙◌, sym, ap, subst, refl, ℕ, ◌+◌, ◌<◌, ◌≤◌, zero, suc, arith, Bool, true, false, List, [], ◌∷◌, ◌++◌, length, set, Some, None, inl, inr}
use Rattle.std.proofs.Common.{length-append, cond}
use Rattle.std.proofs.lemmas.Bool.{false≢true, cases_eq}
use Rattle.meta_model.specs.declared.event.Event.{Event}
use Rattle.meta_model.specs.declared.event.Event.TheVariants as events
use Rattle.meta_model.specs.declared.event.Logged.{Logged}
use Rattle.meta_model.specs.declared.plan.Plan.{Plan}
use Rattle.meta_model.specs.declared.plan.PlanTask.{PlanTask}
use Rattle.tale_model.specs.declared.fate.Fate.{Fate}
use Rattle.tale_model.specs.declared.fate.Fate.TheVariants as fate
use Rattle.tale_model.specs.Fates.{fate_at, fate_by, fates_told, is_running, is_settled, task_of}
use Rattle.run_core.specs.Fates.{running_count, runs_once, CanMark}
use Rattle.run_core.specs.History.{IsInOrder, IsOrderly}
use Rattle.store_model.specs.declared.signature.EquivRow.{EquivRow}
use Rattle.run_core.proofs.Agreeing.{each_push}
use Rattle.run_core.proofs.Marking.{count_after, some_here}
use Rattle.run_core.proofs.Steps.{told_push}
use Rattle.std.specs.Prelude.{Option, IfSome}
use Rattle.run_queue.specs.declared.fault.RunFault.{RunFault}
use Rattle.run_queue.specs.declared.fault.RunFault.TheVariants as ends
use Rattle.run_queue.specs.Causes.{IsCause}
use Rattle.run_model.specs.Causes.{is_fault_break}
use Rattle.run_queue.specs.Keeps.{HasRoom, IsState}
use Rattle.run_queue.specs.Seen.{RunView}
use Rattle.run_queue.specs.Turns.{fates_of}
use Rattle.run_queue.proofs.Causing.{unbroken_on}

-- there is room for what comes of a running task
pub room_now : (capacity events : ℕ) (fates : List Fate) (t : ℕ) → is_running (fate_at fates t) ≡ true → HasRoom capacity events fates → events < capacity
room_now capacity events fates t runs room = omega (arith, some_here fates t runs, room)

running_one : (f : Fate) → is_running f ≡ true → runs_once f ≡ 1
running_one f e = let one : runs_once f ≡ 1 = ap (λ b. cond b 1 0) e in one

running_none : (f : Fate) → is_running f ≡ false → runs_once f ≡ 0
running_none f e = let none : runs_once f ≡ 0 = ap (λ b. cond b 1 0) e in none

pub room_after : (capacity events : ℕ) (fates : List Fate) (t : ℕ) (f : Fate) → t < length fates → is_running (fate_at fates t) ≡ true → is_running f ≡ false → HasRoom capacity events fates → HasRoom capacity (events + 1) (set fates t f)
room_after capacity events fates t f lt runs rests room =
    let one = running_one (fate_at fates t) runs in
    let none = running_none f rests in
    let some = some_here fates t runs in
    let less : (n : ℕ) × (running_count fates ≡ n + 1) = pred (running_count fates) some in
    let now = count_after fates t f (running_count fates) less.0 lt refl (omega (arith, one, none, less.1)) in
    omega (arith, now, less.1, room)
  where
    pred : (n : ℕ) → 0 < n → (m : ℕ) × (n ≡ m + 1)
    pred zero lt = absurd (omega arith)
    pred (suc n) lt = (n, omega arith)

-- an event that can be marked is of a task of the run
pub task_within : (fates : List Fate) (event : Event) → CanMark fates event → task_of event < length fates
task_within fates (events.Found t) can = can.0
task_within fates (events.Restored t) can = can.0
task_within fates (events.Started t s) can = can.0
task_within fates (events.Ended t) can = can.0
task_within fates (events.Failed t w) can = can.0
task_within fates (events.Broke t c) can = can.0

pub set_same : (fates : List Fate) (t : ℕ) (f : Fate) → t < length fates → fate_at (set fates t f) t ≡ f
set_same [] t f lt = absurd (omega arith)
set_same (x ∷ xs) zero f lt = refl
set_same (x ∷ xs) (suc t) f lt = set_same xs t f (omega arith)

pub set_other : (fates : List Fate) (t u : ℕ) (f : Fate) → (t ≡ u → ⊥) → fate_at (set fates t f) u ≡ fate_at fates u
set_other [] t u f ne = refl
set_other (x ∷ xs) zero zero f ne = absurd (ne refl)
set_other (x ∷ xs) zero (suc u) f ne = refl
set_other (x ∷ xs) (suc t) zero f ne = refl
set_other (x ∷ xs) (suc t) (suc u) f ne = set_other xs t u f (λ e. ne (ap suc e))

-- what is settled after an event that doesn't settle was settled before
pub settled_before : (fates : List Fate) (t u : ℕ) (f : Fate) → t < length fates → is_settled f ≡ false → is_settled (fate_at (set fates t f) u) ≡ true → is_settled (fate_at fates u) ≡ true
settled_before fates t u f lt rests now = elim (cases_eq t u) [
  | inl same ↦ absurd (false≢true (sym rests ∙ sym (ap is_settled (set_same fates t f lt)) ∙ ap (λ v. is_settled (fate_at (set fates t f) v)) same ∙ now))
  | inr other ↦ sym (ap is_settled (set_other fates t u f other)) ∙ now
]

-- the fates behind one more entry
pub fates_next : (tasks : List PlanTask) (tale : List Logged) (e : Logged) → fates_told (length tasks) (tale ++ e ∷ []) ≡ set (fates_told (length tasks) tale) (task_of e.event) (fate_by e.event)
fates_next tasks tale e = told_push (length tasks) tale e

-- every state keeps what it keeps
pub noted_state : {D W : Type 0} (count : ℕ) (s : RunView D W) (e : Logged) → IsState count s → IsInOrder s.plan.tasks (fates_of s) e.seat e.event → (s.fault ≡ None → is_fault_break e.event ≡ false) → IsState count (record s { tale = s.tale ++ e ∷ [] })
noted_state count s e is order calm = record {
  sound = is.sound;
  long = is.long;
  few = is.few;
  among = is.among;
  orderly = each_push (IsOrderly s.plan.tasks) s.tale e is.orderly order;
  current = is.current;
  unharmed = is.unharmed;
  clean = is.clean;
  heard = is.heard;
  unbroken = λ none. unbroken_on s.tale e (is.unbroken none) (calm none);
  cause = is.cause;
}

-- there is room behind one more entry
pub noted_room : (capacity : ℕ) (tasks : List PlanTask) (tale : List Logged) (e : Logged)
    → task_of e.event < length (fates_told (length tasks) tale) → is_running (fate_at (fates_told (length tasks) tale) (task_of e.event)) ≡ true → is_running (fate_by e.event) ≡ false → HasRoom capacity (length tale) (fates_told (length tasks) tale) → HasRoom capacity (length (tale ++ e ∷ [])) (fates_told (length tasks) (tale ++ e ∷ []))
noted_room capacity tasks tale e lt runs rests room =
    subst (λ (l : List Fate). HasRoom capacity (length (tale ++ e ∷ [])) l) (sym (fates_next tasks tale e))
    (subst (λ (n : ℕ). HasRoom capacity n (set (fates_told (length tasks) tale) (task_of e.event) (fate_by e.event))) (sym (length-append tale (e ∷ [])))
    (room_after capacity (length tale) (fates_told (length tasks) tale) (task_of e.event) (fate_by e.event) lt runs rests room))

-- a cause stands while the sink stays failed, if it was
cause_on : (count : ℕ) (plan : Plan) (rows : List EquivRow) (old new : Bool) (f : RunFault) → (old ≡ true → new ≡ true) → IsCause count plan rows old f → IsCause count plan rows new f
cause_on count plan rows old new (ends.Store f) stays is = is
cause_on count plan rows old new ends.Write stays is = stays is

pub said_cause : (count : ℕ) (plan : Plan) (rows : List EquivRow) (old new : Bool) (f : Option RunFault) → (old ≡ true → new ≡ true) → IfSome f (IsCause count plan rows old) → IfSome f (IsCause count plan rows new)
said_cause count plan rows old new None stays is = is
said_cause count plan rows old new (Some f) stays is = cause_on count plan rows old new f stays is

-- what the sink is told changes nothing of what a state keeps but the cause of a fault
pub said_state : {D W : Type 0} (count : ℕ) (s : RunView D W) (sink : W) (failed : Bool) → (s.sink_failed ≡ true → failed ≡ true) → (s.fault ≡ None → failed ≡ false) → IsState count s → IsState count (record s { sink = sink; sink_failed = failed })
said_state count s sink failed stays heard is = record {
  sound = is.sound;
  long = is.long;
  few = is.few;
  among = is.among;
  orderly = is.orderly;
  current = is.current;
  unharmed = is.unharmed;
  clean = is.clean;
  heard = heard;
  unbroken = is.unbroken;
  cause = said_cause count s.plan s.store.rows s.sink_failed failed s.fault stays is.cause;
}

once_at_most : (f : Fate) → runs_once f ≤ 1
once_at_most fate.Waiting = omega arith
once_at_most (fate.Running seat) = omega arith
once_at_most fate.Found = omega arith
once_at_most fate.Restored = omega arith
once_at_most fate.Ended = omega arith
once_at_most fate.Failed = omega arith

-- there is room behind one more entry of a task that didn't run, where there was room for two more than run
room_behind : (capacity events : ℕ) (fates : List Fate) (t : ℕ) (f : Fate) → t < length fates → is_running (fate_at fates t) ≡ false → events + (running_count fates + 2) ≤ capacity → HasRoom capacity (events + 1) (set fates t f)
room_behind capacity events fates t f lt rests room =
    let none = running_none (fate_at fates t) rests in
    let now = count_after fates t f (running_count fates) (running_count fates + runs_once f) lt refl (omega (arith, none)) in
    omega (arith, now, once_at_most f, room)

pub behind_room : (capacity : ℕ) (tasks : List PlanTask) (tale : List Logged) (e : Logged)
    → task_of e.event < length (fates_told (length tasks) tale) → is_running (fate_at (fates_told (length tasks) tale) (task_of e.event)) ≡ false → length tale + (running_count (fates_told (length tasks) tale) + 2) ≤ capacity → HasRoom capacity (length (tale ++ e ∷ [])) (fates_told (length tasks) (tale ++ e ∷ []))
behind_room capacity tasks tale e lt rests room =
    subst (λ (l : List Fate). HasRoom capacity (length (tale ++ e ∷ [])) l) (sym (fates_next tasks tale e))
    (subst (λ (n : ℕ). HasRoom capacity n (set (fates_told (length tasks) tale) (task_of e.event) (fate_by e.event))) (sym (length-append tale (e ∷ [])))
    (room_behind capacity (length tale) (fates_told (length tasks) tale) (task_of e.event) (fate_by e.event) lt rests room))
