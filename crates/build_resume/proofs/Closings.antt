-- A job that is done comes to its end in several turns of the calling thread.
use Rattle.std.proofs.Common.{◌≡◌, ◌∙◌, sym, ap, subst, refl, ℕ, List, length, set, false, true, Ok, Err, Some, None, inl, inr}
use Rattle.std.specs.Prelude.{◌⊎◌, IfSome, Option}
use Rattle.std.proofs.lemmas.Bool.{false≢true}
use Rattle.tree_model.specs.declared.text.Mem.{Mem}
use Rattle.meta_model.specs.declared.event.Cut.{Cut}
use Rattle.meta_model.specs.declared.event.Cut.TheVariants as cut
use Rattle.meta_model.specs.declared.event.Event.{Event}
use Rattle.meta_model.specs.declared.event.Event.TheVariants as events
use Rattle.meta_model.specs.declared.event.Why.TheVariants as why
use Rattle.meta_model.specs.declared.event.Logged.{Logged}
use Rattle.meta_model.specs.declared.plan.Plan.{Plan}
use Rattle.tale_model.specs.declared.fate.Fate.{Fate}
use Rattle.tale_model.specs.declared.fate.Fate.TheVariants as fate
use Rattle.tale_model.specs.Fates.{fate_at, fate_by, fates_told, is_running, task_of}
use Rattle.run_core.proofs.Marking.{fate_set}
use Rattle.run_model.specs.Seats.{is_bench_break, own}
use Rattle.task_worker.specs.declared.given.Given.{Given}
use Rattle.task_worker.specs.declared.given.Given.TheVariants as given
use Rattle.run_queue.specs.declared.closing.Ending.TheVariants as ending
use Rattle.run_queue.specs.Seen.{RunView}
use Rattle.run_queue.specs.Turns.{BreaksOff, EndsTurn, HandsOn, Marks, RunsUnder, closed_by, fates_of}
use Rattle.run_queue.proofs.Breaking.{running_within}
use Rattle.run_workers.specs.declared.worker.Halt.{Halt}
use Rattle.build_resume.specs.Drive.{ClosesAlone, GoesOnBehind}
use Rattle.run_workers.specs.Runs.{by_bench}
use Rattle.run_workers.specs.Worked.{BrokeOff}
use Rattle.build_resume.proofs.Seating.{broken_marked}
use Rattle.build_resume.proofs.Turning.{marked_fates}

-- ---- what is handed over

-- what was at first, or nothing any more
abbrev pub IsHanded : Option Given → Option Given → Type 0
IsHanded first now = (now ≡ first) ⊎ (now ≡ None)

pub hands_on : (t : ℕ) (first old new : Option Given) → IsHanded first old → HandsOn t old new → IsHanded first new
hands_on t first old new is (inl same) = subst (IsHanded first) (sym same) is
hands_on t first old new is (inr none) = inr none.0

-- so it has what that has
pub handed_has : (P : Given → Type 0) (first now : Option Given) → IsHanded first now → IfSome first P → IfSome now P
handed_has P first now (inl same) has = subst (λ (x : Option Given). IfSome x P) (sym same) has
handed_has P first now (inr none) has = subst (λ (x : Option Given). IfSome x P) (sym none) tt

-- ---- an event that closes a job, and doesn't say that its bench failed

record Closer (t : ℕ) (event : Event) : Type 0 where
  of : task_of event ≡ t
  rests : is_running (fate_by event) ≡ false
  starts_none : (seat : ℕ) → event ≡ events.Started t seat → ⊥
  calm : is_bench_break event ≡ false

closer_as : (t : ℕ) (h : Option Given) → Closer t (closed_by t h)
closer_as t None = record { of = refl; rests = refl; starts_none = λ seat e. let n : events.Ended t ≡ events.Started t seat = e in cc; calm = refl }
closer_as t (Some (given.Tree tree manifest)) = record { of = refl; rests = refl; starts_none = λ seat e. let n : events.Ended t ≡ events.Started t seat = e in cc; calm = refl }
closer_as t (Some (given.Fails status)) = record { of = refl; rests = refl; starts_none = λ seat e. let n : events.Failed t (why.Status status) ≡ events.Started t seat = e in cc; calm = refl }
closer_as t (Some given.TooLarge) = record { of = refl; rests = refl; starts_none = λ seat e. let n : events.Failed t why.TooLarge ≡ events.Started t seat = e in cc; calm = refl }

closer_broke : (t : ℕ) (c : Cut) → is_bench_break (events.Broke t c) ≡ false → Closer t (events.Broke t c)
closer_broke t c calm = record { of = refl; rests = refl; starts_none = λ seat e. let n : events.Broke t c ≡ events.Started t seat = e in cc; calm = calm }

closes : (t : ℕ) (event : Event) (halt : Option Halt) (old new : List Logged) → Closer t event → Marks 0 event old new → ClosesAlone t halt old new
closes t event halt old new c m = record { event = event; marks = m; of = c.of; rests = c.rests; starts_none = c.starts_none; breaks = λ b. absurd (false≢true (sym c.calm ∙ b)) }

bench_cut : (t : ℕ) (c : Cut) → is_bench_break (events.Broke t c) ≡ true → c ≡ cut.Bench
bench_cut t cut.Memory is = absurd (false≢true is)
bench_cut t cut.Bench is = refl
bench_cut t cut.Fault is = absurd (false≢true is)

-- its task doesn't wait again, where nothing was wanting
closed_settles : (t : ℕ) (h : Option Given) → fate_by (closed_by t h) ≡ fate.Waiting → ⊥
closed_settles t None w = let n : fate.Ended ≡ fate.Waiting = w in cc
closed_settles t (Some (given.Tree tree manifest)) w = let n : fate.Ended ≡ fate.Waiting = w in cc
closed_settles t (Some (given.Fails status)) w = let n : fate.Failed ≡ fate.Waiting = w in cc
closed_settles t (Some given.TooLarge) w = let n : fate.Failed ≡ fate.Waiting = w in cc

-- ---- the turn that closes it

module _ {D W : Type 0} (t : ℕ) (h : Option Given) (old new : RunView D W) where
  pub closes_closed : (halt : Option Halt) → EndsTurn 0 t h old new (Ok ending.Closed) → ClosesAlone t halt old.tale new.tale
  closes_closed halt (inl m) = closes t (closed_by t h) halt old.tale new.tale (closer_as t h) m.0
  closes_closed halt (inr m) = closes t (events.Broke t cut.Fault) halt old.tale new.tale (closer_broke t cut.Fault refl) m.0

  pub closes_wanting : (halt : Option Halt) (e : Mem) → EndsTurn 0 t h old new (Err e) → ClosesAlone t halt old.tale new.tale
  closes_wanting halt e m = closes t (events.Broke t cut.Memory) halt old.tale new.tale (closer_broke t cut.Memory refl) m.0

  pub goes_closed : (halt : Option Halt) → new.plan ≡ old.plan → RunsUnder old t 0 → EndsTurn 0 t h old new (Ok ending.Closed) → GoesOnBehind t new halt
  goes_closed halt same runs (inr m) none = inr m.1
  goes_closed halt same runs (inl m) none =
      let event = closed_by t h in
      let set_so : fates_of new ≡ set (fates_of old) (task_of event) (fate_by event) = ap (λ (p : Plan). fates_told (length p.tasks) new.tale) same ∙ marked_fates old.plan.tasks 0 event old.tale new.tale m.0 in
      let own : fates_of new ≡ set (fates_of old) t (fate_by event) = set_so ∙ ap (λ n. set (fates_of old) n (fate_by event)) (closer_as t h).of in
      inl (λ w. closed_settles t h (sym (ap (λ (l : List Fate). fate_at l t) own ∙ fate_set (fates_of old) t (fate_by event) (running_within (fates_of old) t 0 runs)) ∙ w))

  -- and one that couldn't be done
  pub closes_broke : (asked : Cut) (halt : Option Halt) → (asked ≡ cut.Bench → by_bench halt ≡ true) → BreaksOff 0 t asked old new → ClosesAlone t halt old.tale new.tale
  closes_broke asked halt goes b = record {
    event = events.Broke t b.broke;
    marks = b.marks;
    of = refl;
    rests = refl;
    starts_none = λ seat e. let n : events.Broke t b.broke ≡ events.Started t seat = e in cc;
    breaks = λ bench. elim b.as_asked [
      | inl same ↦ goes (sym same ∙ bench_cut t b.broke bench)
      | inr other ↦ absurd (other.0 (bench_cut t b.broke bench))
    ];
  }

  -- by its seat's entries it broke off
  pub broke_off : (asked : Cut) (halt : Halt) → BreaksOff 0 t asked old new → BrokeOff t (Some halt) (own 0 new.tale)
  broke_off asked halt b = (refl, broken_marked (events.Broke t b.broke) old.tale new.tale b.marks)
