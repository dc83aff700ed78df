-- How far a run gets by one turn.
use Rattle.std.proofs.Common.{◌≡◌, ◌∙◌, sym, ap, subst, refl, ℕ, ◌+◌, ◌<◌, ◌≤◌, zero, suc, arith, true, false, List, [], ◌∷◌, ◌++◌, length, set, Some, None, inl, inr}
use Rattle.std.specs.Prelude.{◌⊎◌, ◌≢◌, Option, IsSome}
use Rattle.std.specs.List.{slice_get}
use Rattle.std.proofs.lemmas.Bool.{cases_eq, false≢true}
use Rattle.meta_model.specs.declared.event.Event.{Event}
use Rattle.meta_model.specs.declared.event.Event.TheVariants as events
use Rattle.meta_model.specs.declared.event.Why.TheVariants as why
use Rattle.meta_model.specs.declared.event.Logged.{Logged}
use Rattle.meta_model.specs.declared.plan.Plan.{Plan}
use Rattle.meta_model.specs.declared.plan.PlanTask.{PlanTask}
use Rattle.meta_model.specs.CleanBuild.{Entries, Gives}
use Rattle.tale_model.specs.declared.fate.Fate.{Fate}
use Rattle.tale_model.specs.declared.fate.Fate.TheVariants as fate
use Rattle.run_core.specs.Fates.{CanMark}
use Rattle.tale_model.specs.Fates.{NoneRuns, fate_at, fate_by, fates_told, is_running, task_of}
use Rattle.tale_model.specs.History.{EachAfter}
use Rattle.run_core.specs.History.{IsInOrder, IsOfSeat, IsOrderly}
use Rattle.run_core.proofs.Marking.{fate_kept, fate_set}
use Rattle.run_core.proofs.Seats.{within}
use Rattle.run_core.proofs.Steps.{count_told, told_push}
use Rattle.run_queue.specs.declared.fault.RunFault.{RunFault}
use Rattle.run_queue.specs.Seen.{RunView}
use Rattle.run_queue.specs.Turns.{Marks, Settles, fates_of}
use Rattle.run_workers.specs.Runs.{AllRan}
use Rattle.run_model.specs.Runs.{RanThese}
use Rattle.run_model.specs.Seats.{is_bench_break, is_break}
use Rattle.run_model.specs.Benches.{started_by}
use Rattle.build_resume.specs.Drive.{ClosesAlone, fault_once, left_over, waiting_count, waits_once}
use Rattle.run_workers.specs.declared.worker.Halt.{Halt}

-- ---- the last entry of a tale

last_entry : (tale : List Logged) (e : Logged) → slice_get (tale ++ e ∷ []) (length tale) ≡ Some e
last_entry [] e = refl
last_entry (x ∷ tale) e = last_entry tale e

front_of : (tale : List Logged) (e : Logged) → Rattle.std.proofs.Common.take (length tale) (tale ++ e ∷ []) ≡ tale
front_of [] e = refl
front_of (x ∷ tale) e = ap (λ l. x ∷ l) (front_of tale e)

-- what was marked last was in order
pub marked_in_order : (tasks : List PlanTask) (seat : ℕ) (event : Event) (old new : List Logged) → Marks seat event old new → EachAfter (IsOrderly tasks) new → IsInOrder tasks (fates_told (length tasks) old) seat event
marked_in_order tasks seat event old new m each =
    let e : Logged = record { event = event; seat = seat; moment = m.moment } in
    let order = subst (EachAfter (IsOrderly tasks)) m.is each (length old) e (last_entry old e) in
    subst (λ (l : List Logged). IsInOrder tasks (fates_told (length tasks) l) seat event) (front_of old e) order

-- the fates behind it
pub marked_fates : (tasks : List PlanTask) (seat : ℕ) (event : Event) (old new : List Logged) → Marks seat event old new → fates_told (length tasks) new ≡ set (fates_told (length tasks) old) (task_of event) (fate_by event)
marked_fates tasks seat event old new m = ap (fates_told (length tasks)) m.is ∙ told_push (length tasks) old (record { event = event; seat = seat; moment = m.moment })

-- ---- how many wait

waits_at_most : (f : Fate) → waits_once f ≤ 1
waits_at_most fate.Waiting = omega arith
waits_at_most (fate.Running seat) = omega arith
waits_at_most fate.Found = omega arith
waits_at_most fate.Restored = omega arith
waits_at_most fate.Ended = omega arith
waits_at_most fate.Failed = omega arith

waits_none : (f : Fate) → f ≢ fate.Waiting → waits_once f ≡ 0
waits_none fate.Waiting ne = absurd (ne refl)
waits_none (fate.Running seat) ne = refl
waits_none fate.Found ne = refl
waits_none fate.Restored ne = refl
waits_none fate.Ended ne = refl
waits_none fate.Failed ne = refl

count_set : (fates : List Fate) (t : ℕ) (f : Fate) → t < length fates → waiting_count (set fates t f) + waits_once (fate_at fates t) ≡ waiting_count fates + waits_once f
count_set [] t f lt = absurd (omega arith)
count_set (x ∷ xs) zero f lt = omega arith
count_set (x ∷ xs) (suc t) f lt = let rest = count_set xs t f (omega arith) in omega (arith, rest)

fault_at_most : (f : Option RunFault) → fault_once f ≤ 1
fault_at_most None = omega arith
fault_at_most (Some f) = omega arith

fault_some : (f : Option RunFault) → IsSome f → fault_once f ≡ 0
fault_some None is = absurd (false≢true is)
fault_some (Some f) is = refl

-- a fault that is kept stays, so the measure of faults doesn't rise
fault_falls : (old new : Option RunFault) → (IsSome old → new ≡ old) → fault_once new ≤ fault_once old
fault_falls None new stays = fault_at_most new
fault_falls (Some f) new stays = let z = fault_some new (subst (λ x. IsSome x) (sym (stays refl)) refl) in omega (arith, z)

-- ---- a turn that settles a task, or marks that its layout is too large

-- one fewer waits behind an event of a task that waited, by which it doesn't wait
one_fewer : (fates : List Fate) (t : ℕ) (f : Fate) → t < length fates → fate_at fates t ≡ fate.Waiting → f ≢ fate.Waiting → waiting_count (set fates t f) + 1 ≡ waiting_count fates
one_fewer fates t f lt waits ne =
    let c = count_set fates t f lt in
    let w : waits_once (fate_at fates t) ≡ 1 = ap waits_once waits in
    let z = waits_none f ne in
    omega (arith, c, w, z)

-- in order behind a tale in which no task runs, an event that settles or fails a task is of one that waits
settled_waits : (tasks : List PlanTask) (fates : List Fate) (seat t : ℕ) (event : Event) → NoneRuns fates → (event ≡ events.Found t) ⊎ ((event ≡ events.Restored t) ⊎ (event ≡ events.Failed t why.TooLarge)) → IsInOrder tasks fates seat event → fate_at fates t ≡ fate.Waiting
settled_waits tasks fates seat t event none (inl is) order = (subst (CanMark fates) is order.can).1
settled_waits tasks fates seat t event none (inr (inl is)) order = (subst (CanMark fates) is order.can).1
settled_waits tasks fates seat t event none (inr (inr is)) order = elim (subst (IsOfSeat tasks fates seat) is order.by_seat) [
  | inl runs ↦ absurd (none t (ap is_running runs))
  | inr waits ↦ waits.0
]

-- a settled task isn't running, nor waiting
rests_behind : (t : ℕ) (event : Event) → (event ≡ events.Found t) ⊎ ((event ≡ events.Restored t) ⊎ (event ≡ events.Failed t why.TooLarge)) → (is_running (fate_by event) ≡ false) × (fate_by event ≢ fate.Waiting) × (task_of event ≡ t)
rests_behind t event (inl is) = (ap (λ e. is_running (fate_by e)) is, λ w. let n : fate.Found ≡ fate.Waiting = sym (ap fate_by is) ∙ w in cc, ap task_of is)
rests_behind t event (inr (inl is)) = (ap (λ e. is_running (fate_by e)) is, λ w. let n : fate.Restored ≡ fate.Waiting = sym (ap fate_by is) ∙ w in cc, ap task_of is)
rests_behind t event (inr (inr is)) = (ap (λ e. is_running (fate_by e)) is, λ w. let n : fate.Failed ≡ fate.Waiting = sym (ap fate_by is) ∙ w in cc, ap task_of is)

-- where none ran, none runs behind an event by which its task doesn't run
pub none_runs : (fates : List Fate) (t : ℕ) (f : Fate) → t < length fates → ((u : ℕ) → (u ≡ t → ⊥) → is_running (fate_at fates u) ≡ true → ⊥) → is_running f ≡ false → NoneRuns (set fates t f)
none_runs fates t f lt others rests u runs = elim (cases_eq u t) [
  | inl same ↦ false≢true (sym rests ∙ sym (ap is_running (ap (fate_at (set fates t f)) same ∙ fate_set fates t f lt)) ∙ runs)
  | inr ne ↦ others u ne (sym (ap is_running (fate_kept fates t u f ne)) ∙ runs)
]

-- what a turn settled: which event, and that it was the task's of the answer
pub record SettledBy (seat t : ℕ) (old new : List Logged) : Type 0 where
  pub event : Event
  pub which : (event ≡ events.Found t) ⊎ ((event ≡ events.Restored t) ⊎ (event ≡ events.Failed t why.TooLarge))
  pub marks : Marks seat event old new

pub settled_by : (seat t : ℕ) (old new : List Logged) → Settles seat t old new → SettledBy seat t old new
settled_by seat t old new (inl m) = record { event = events.Found t; which = inl refl; marks = m }
settled_by seat t old new (inr (inl m)) = record { event = events.Restored t; which = inr (inl refl); marks = m }
settled_by seat t old new (inr (inr m)) = record { event = events.Failed t why.TooLarge; which = inr (inr refl); marks = m }

-- it starts nothing
pub settled_starts : (t moment : ℕ) (event : Event) → (event ≡ events.Found t) ⊎ ((event ≡ events.Restored t) ⊎ (event ≡ events.Failed t why.TooLarge)) → started_by 0 (record { event = event; seat = 0; moment = moment } ∷ []) ≡ []
settled_starts t moment event (inl is) = ap (λ (e : Event). started_by 0 (record { event = e; seat = 0; moment = moment } ∷ [])) is
settled_starts t moment event (inr (inl is)) = ap (λ (e : Event). started_by 0 (record { event = e; seat = 0; moment = moment } ∷ [])) is
settled_starts t moment event (inr (inr is)) = ap (λ (e : Event). started_by 0 (record { event = e; seat = 0; moment = moment } ∷ [])) is

-- it doesn't tell that a bench failed
pub settled_calm : (t : ℕ) (event : Event) → (event ≡ events.Found t) ⊎ ((event ≡ events.Restored t) ⊎ (event ≡ events.Failed t why.TooLarge)) → is_bench_break event ≡ false
settled_calm t event (inl is) = ap is_bench_break is
settled_calm t event (inr (inl is)) = ap is_bench_break is
settled_calm t event (inr (inr is)) = ap is_bench_break is

-- nor that a task broke off
pub settled_whole : (t : ℕ) (event : Event) → (event ≡ events.Found t) ⊎ ((event ≡ events.Restored t) ⊎ (event ≡ events.Failed t why.TooLarge)) → is_break event ≡ false
settled_whole t event (inl is) = ap is_break is
settled_whole t event (inr (inl is)) = ap is_break is
settled_whole t event (inr (inr is)) = ap is_break is

module _ {D W : Type 0} (old new : RunView D W) (t : ℕ) (same : new.plan ≡ old.plan) (none : NoneRuns (fates_of old)) (s : SettledBy 0 t old.tale new.tale) (orderly : EachAfter (IsOrderly new.plan.tasks) new.tale) where
  settled_order : IsInOrder old.plan.tasks (fates_of old) 0 s.event
  settled_order = marked_in_order old.plan.tasks 0 s.event old.tale new.tale s.marks (subst (λ (p : Plan). EachAfter (IsOrderly p.tasks) new.tale) same orderly)

  settled_fates : fates_of new ≡ set (fates_of old) (task_of s.event) (fate_by s.event)
  settled_fates = ap (λ (p : Plan). fates_told (length p.tasks) new.tale) same ∙ marked_fates old.plan.tasks 0 s.event old.tale new.tale s.marks

  settled_lt : task_of s.event < length (fates_of old)
  settled_lt = within (fates_of old) s.event settled_order.can

  pub settled_less : (IsSome old.fault → new.fault ≡ old.fault) → left_over new < left_over old
  settled_less stays =
      let r = rests_behind t s.event s.which in
      let waits : fate_at (fates_of old) (task_of s.event) ≡ fate.Waiting = ap (fate_at (fates_of old)) r.2 ∙ settled_waits old.plan.tasks (fates_of old) 0 t s.event none s.which settled_order in
      let fewer = one_fewer (fates_of old) (task_of s.event) (fate_by s.event) settled_lt waits r.1 in
      let count : waiting_count (fates_of new) ≡ waiting_count (set (fates_of old) (task_of s.event) (fate_by s.event)) = ap waiting_count settled_fates in
      let falls = fault_falls old.fault new.fault stays in
      omega (arith, fewer, count, falls)

-- ---- a turn that started a task, whose job then came to an end

module _ {D W : Type 0} (old mid new : RunView D W) (t : ℕ) (same : mid.plan ≡ old.plan) (later : new.plan ≡ mid.plan) (none : NoneRuns (fates_of old)) (m : Marks 0 (events.Started t 0) old.tale mid.tale) (orderly : EachAfter (IsOrderly mid.plan.tasks) mid.tale) where
  started_order : IsInOrder old.plan.tasks (fates_of old) 0 (events.Started t 0)
  started_order = marked_in_order old.plan.tasks 0 (events.Started t 0) old.tale mid.tale m (subst (λ (p : Plan). EachAfter (IsOrderly p.tasks) mid.tale) same orderly)

  started_fates : fates_of mid ≡ set (fates_of old) t (fate.Running 0)
  started_fates = ap (λ (p : Plan). fates_told (length p.tasks) mid.tale) same ∙ marked_fates old.plan.tasks 0 (events.Started t 0) old.tale mid.tale m

  started_lt : t < length (fates_of old)
  started_lt = started_order.can.0

  pub runs_here : fate_at (fates_of mid) t ≡ fate.Running 0
  runs_here = ap (λ (l : List Fate). fate_at l t) started_fates ∙ fate_set (fates_of old) t (fate.Running 0) started_lt

  pub within_mid : t < length mid.plan.tasks
  within_mid = subst (λ (p : Plan). t < length p.tasks) (sym same) (subst (λ n. t < n) (count_told (length old.plan.tasks) old.tale) started_lt)

  module _ (halt : Option Halt) (c : ClosesAlone t halt mid.tale new.tale) where
    closed_fates : fates_of new ≡ set (fates_of mid) t (fate_by c.event)
    closed_fates =
        ap (λ (p : Plan). fates_told (length p.tasks) new.tale) later ∙ marked_fates mid.plan.tasks 0 c.event mid.tale new.tale c.marks
        ∙ ap (λ n. set (fates_of mid) n (fate_by c.event)) c.of

    mid_lt : t < length (fates_of mid)
    mid_lt = subst (λ n. t < n) (sym (count_told (length mid.plan.tasks) mid.tale)) within_mid

    others_rest : (u : ℕ) → (u ≡ t → ⊥) → is_running (fate_at (fates_of mid) u) ≡ true → ⊥
    others_rest u ne runs = none u (sym (ap is_running (ap (λ (l : List Fate). fate_at l u) started_fates ∙ fate_kept (fates_of old) t u (fate.Running 0) ne)) ∙ runs)

    pub closed_none : NoneRuns (fates_of new)
    closed_none = subst NoneRuns (sym closed_fates) (none_runs (fates_of mid) t (fate_by c.event) mid_lt others_rest c.rests)

    pub closed_less : (old.fault ≡ None) → (IsSome mid.fault → new.fault ≡ mid.fault) → (fate_at (fates_of new) t ≢ fate.Waiting) ⊎ IsSome new.fault → left_over new < left_over old
    closed_less first stays goes =
        let fewer = one_fewer (fates_of old) t (fate.Running 0) started_lt started_order.can.1 (λ e. let n : fate.Running 0 ≡ fate.Waiting = e in cc) in
        let mid_count : waiting_count (fates_of mid) ≡ waiting_count (set (fates_of old) t (fate.Running 0)) = ap waiting_count started_fates in
        let c_set = count_set (fates_of mid) t (fate_by c.event) mid_lt in
        let runs : waits_once (fate_at (fates_of mid) t) ≡ 0 = ap waits_once runs_here in
        let new_count : waiting_count (fates_of new) ≡ waiting_count (set (fates_of mid) t (fate_by c.event)) = ap waiting_count closed_fates in
        let own : fate_at (fates_of new) t ≡ fate_by c.event = ap (λ (l : List Fate). fate_at l t) closed_fates ∙ fate_set (fates_of mid) t (fate_by c.event) mid_lt in
        let one : fault_once old.fault ≡ 1 = ap fault_once first in
        let most = fault_at_most new.fault in
        elim goes [
          | inl ne ↦ let z = waits_none (fate_by c.event) (λ w. ne (own ∙ w)) in omega (arith, fewer, mid_count, c_set, runs, new_count, one, most, z)
          | inr kept ↦ let z = fault_some new.fault kept in let w = waits_at_most (fate_by c.event) in omega (arith, fewer, mid_count, c_set, runs, new_count, one, z, w)
        ]

-- ---- what ran

pub all_then : (gives : Gives) (plan : Plan) (ts more : List ℕ) (runs last : List (List ℕ × Entries)) → AllRan gives plan ts runs → AllRan gives plan more last → AllRan gives plan (ts ++ more) (runs ++ last)
all_then gives plan [] more [] last all rest = rest
all_then gives plan [] more (r ∷ runs) last all rest = absurd all
all_then gives plan (t ∷ ts) more [] last all rest = absurd all
all_then gives plan (t ∷ ts) more (r ∷ runs) last all rest = (all.0, all_then gives plan ts more runs last all.1 rest)

pub these_then : (gives : Gives) (plan : Plan) (broke : Option ℕ) (ts more : List ℕ) (runs last : List (List ℕ × Entries)) → AllRan gives plan ts runs → RanThese gives plan broke more last → RanThese gives plan broke (ts ++ more) (runs ++ last)
these_then gives plan broke [] more [] last all rest = rest
these_then gives plan broke [] more (r ∷ runs) last all rest = absurd all
these_then gives plan broke (t ∷ ts) more [] last all rest = absurd all
these_then gives plan broke (t ∷ ts) more (r ∷ runs) last all rest = (all.0, these_then gives plan broke ts more runs last all.1 rest)

-- by a tale that tells of the same task that it broke off
pub these_still : (gives : Gives) (plan : Plan) (broke now : Option ℕ) (ts : List ℕ) (runs : List (List ℕ × Entries)) → ((t : ℕ) → broke ≡ Some t → now ≡ Some t) → RanThese gives plan broke ts runs → RanThese gives plan now ts runs
these_still gives plan broke now [] [] still ran = tt
these_still gives plan broke now [] (r ∷ runs) still ran = absurd ran
these_still gives plan broke now (t ∷ ts) [] still ran = (ran.0, still t ran.1)
these_still gives plan broke now (t ∷ ts) (r ∷ runs) still ran = (ran.0, these_still gives plan broke now ts runs still ran.1)
