-- What has become of each task of a run: its fate, by the events so far.
use Rattle.std.specs.Prelude.{◌≡◌, ℕ, Bool, true, false, List, fold, map, replicate, slice_set, slice_index_or}
use Rattle.meta_model.specs.declared.event.Event.{Event}
use Rattle.meta_model.specs.declared.event.Event.TheVariants as events
use Rattle.meta_model.specs.declared.event.Logged.{Logged}
use Rattle.tale_model.specs.declared.fate.Fate.{Fate}
use Rattle.tale_model.specs.declared.fate.Fate.TheVariants.{Waiting, Running, Found, Restored, Ended, Failed}

-- the task of an event
abbrev pub task_of : Event → ℕ
task_of (events.Found task) = task
task_of (events.Restored task) = task
task_of (events.Started task seat) = task
task_of (events.Ended task) = task
task_of (events.Failed task why) = task
task_of (events.Broke task cut) = task

-- what becomes of the task of an event; a task that broke waits again
abbrev pub fate_by : Event → Fate
fate_by (events.Found task) = Found
fate_by (events.Restored task) = Restored
fate_by (events.Started task seat) = Running seat
fate_by (events.Ended task) = Ended
fate_by (events.Failed task why) = Failed
fate_by (events.Broke task cut) = Waiting

-- the fates after one more event
abbrev pub fates_by : List Fate → Event → List Fate
fates_by fates event = slice_set fates (task_of event) (fate_by event)

-- the fates of so many tasks after these events, of which the first one came first
abbrev pub fates_after : ℕ → List Event → List Fate
fates_after count events = fold fates_by (replicate count Waiting) events

-- the fates of so many tasks after the events of a tale
abbrev pub fates_told : ℕ → List Logged → List Fate
fates_told count tale = fates_after count (map (λ e. e.event) tale)

-- the fate of a task; past all tasks it waits
abbrev pub fate_at : List Fate → ℕ → Fate
fate_at fates t = slice_index_or fates t Waiting

-- a task is settled where it was found, was restored or has ended
abbrev pub is_settled : Fate → Bool
is_settled Waiting = false
is_settled (Running seat) = false
is_settled Found = true
is_settled Restored = true
is_settled Ended = true
is_settled Failed = false

abbrev pub is_running : Fate → Bool
is_running Waiting = false
is_running (Running seat) = true
is_running Found = false
is_running Restored = false
is_running Ended = false
is_running Failed = false

-- no task runs under a seat
abbrev pub IsFree : List Fate → ℕ → Type 0
IsFree fates seat = (t : ℕ) → fate_at fates t ≡ Running seat → ⊥

-- no task runs
abbrev pub NoneRuns : List Fate → Type 0
NoneRuns fates = (t : ℕ) → is_running (fate_at fates t) ≡ true → ⊥

-- some task has failed
abbrev pub HoldsFailure : List Fate → Type 0
HoldsFailure fates = (t : ℕ) × (fate_at fates t ≡ Failed)
