-- What ended or broke off was started.
use Rattle.std.proofs.Common.{◌≡◌, subst, ℕ, List, length, take, inl, inr}
use Rattle.std.specs.Prelude.{◌⊎◌}
use Rattle.meta_model.specs.declared.event.Event.{Event}
use Rattle.meta_model.specs.declared.event.Logged.{Logged}
use Rattle.meta_model.specs.declared.plan.PlanTask.{PlanTask}
use Rattle.tale_model.specs.declared.fate.Fate.TheVariants.{Running}
use Rattle.tale_model.specs.Fates.{fate_at, fates_told}
use Rattle.tale_model.specs.History.{EachAfter}
use Rattle.run_core.specs.History.{IsOfSeat, IsOrderly}
use Rattle.run_model.specs.Stands.{HasBroken, HasFinished, HasStarted}
use Rattle.run_queue.proofs.Touched.{running_started}
use Rattle.build_resume.proofs.Working.{taken}

-- a task that runs behind a front of a tale was started in the tale
runs_started : (count : ℕ) (tale : List Logged) (place t seat : ℕ) → fate_at (fates_told count (take place tale)) t ≡ Running seat → HasStarted tale t
runs_started count tale place t seat runs =
    let s = running_started count (take place tale) t seat runs in
    record { place = s.place; entry = s.entry; is_entry = taken place tale s.place s.entry s.is_entry; seat = s.seat; starts = s.starts }

pub closed_started : (tasks : List PlanTask) (tale : List Logged) → EachAfter (IsOrderly tasks) tale → (t : ℕ) → HasFinished tale t ⊎ HasBroken tale t → HasStarted tale t
closed_started tasks tale each t (inl f) =
    runs_started (length tasks) tale f.place t f.entry.seat
    (subst (λ (e : Event). IsOfSeat tasks (fates_told (length tasks) (take f.place tale)) f.entry.seat e) f.ends (each f.place f.entry f.is_entry).by_seat)
closed_started tasks tale each t (inr b) =
    runs_started (length tasks) tale b.place t b.entry.seat
    (subst (λ (e : Event). IsOfSeat tasks (fates_told (length tasks) (take b.place tale)) b.entry.seat e) b.breaks (each b.place b.entry b.is_entry).by_seat)
