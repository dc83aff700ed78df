-- What a seat did, by its own entries.
use Rattle.std.specs.Prelude.{ℕ, ◌==◌, List, [], ◌∷◌, ◌≡◌, ◌++◌, Bool, true, false}
use Rattle.std.specs.List.{filter}
use Rattle.meta_model.specs.declared.event.Logged.{Logged}
use Rattle.meta_model.specs.declared.event.Cut.TheVariants as cut
use Rattle.meta_model.specs.declared.event.Event.{Event}
use Rattle.meta_model.specs.declared.event.Event.TheVariants as events
use Rattle.meta_model.specs.declared.plan.Plan.{Plan}
use Rattle.meta_model.specs.CleanBuild.{Gives}
use Rattle.run_model.specs.Runs.{RanThese, Runs, broken_off, started_in}

-- the entries of a tale that the seat of a number marked
abbrev pub own : ℕ → List Logged → List Logged
own n tale = filter (λ e. e.seat == n) tale

-- the event is that a task broke off since its bench failed
abbrev pub is_bench_break : Event → Bool
is_bench_break (events.Broke t cut.Bench) = true
is_bench_break _ = false

-- the event is that a task broke off
abbrev pub is_break : Event → Bool
is_break (events.Found t) = false
is_break (events.Restored t) = false
is_break (events.Started t seat) = false
is_break (events.Ended t) = false
is_break (events.Failed t cause) = false
is_break (events.Broke t c) = true

-- no entry of a seat follows one of it that says that a task broke off
abbrev pub BreaksLast : List Logged → Type 0
BreaksLast tale = (seat : ℕ) (front back : List Logged) (entry : Logged) → own seat tale ≡ front ++ entry ∷ back → is_break entry.event ≡ true → back ≡ []

-- The bench ran what was started in these entries of its seat, but for maybe the last one, where the last of them says that it broke off.
pub record RanStarted (gives : Gives) (plan : Plan) (mine : List Logged) (before now : Runs) : Type 0 where
  pub runs : Runs
  pub ran : now ≡ before ++ runs
  pub these : RanThese gives plan (broken_off mine) (started_in mine) runs
