-- What the state of a run keeps.
use Rattle.std.specs.Prelude.{◌≡◌, ◌≢◌, ◌⊎◌, ◌<◌, ◌≤◌, ◌+◌, ◌++◌, ℕ, Bool, true, false, List, Contains, length, Option, Some, None, IfSome, IsSome, []}
use Rattle.std.specs.Bool.{OnTrue, OnFalse}
use Rattle.std.specs.List.{AllByRecursion, slice_get}
use Rattle.tree_model.specs.declared.hash.Hash.{Hash}
use Rattle.outside_traits.specs.Fault.{Counts}
use Rattle.outside_traits.specs.Story.{IsImageSince, Story, moment}
use Rattle.outside_traits.specs.Passes.{EachNow}
use Rattle.outside_traits.specs.Store.{Store}
use Rattle.meta_model.specs.declared.event.Avail.{Avail}
use Rattle.meta_model.specs.declared.event.Logged.{Logged}
use Rattle.meta_model.specs.declared.plan.Options.{Options}
use Rattle.meta_model.specs.declared.plan.Plan.{Plan}
use Rattle.tale_model.specs.declared.fate.Fate.{Fate}
use Rattle.run_core.specs.Fates.{running_count}
use Rattle.tale_model.specs.History.{EachAfter}
use Rattle.run_core.specs.History.{IsOrderly}
use Rattle.tale_model.specs.Need.{IsIn, IsNeed}
use Rattle.plan_model.specs.Sound.{IsSound}
use Rattle.store_model.specs.declared.signature.EquivRow.{EquivRow}
use Rattle.store_model.specs.Readable.{IsReadable}
use Rattle.store_model.specs.Origins.{Book, Line, rows_of}
use Rattle.store_model.specs.Lines.{HasLine}
use Rattle.meta_model.specs.declared.plan.PlanTask.{PlanTask}
use Rattle.store_model.specs.Premises.{HasNoCollision}
use Rattle.store_model.specs.Reuse.{MayReuse}
use Rattle.store_model.specs.Rows.{row_at, IsClear}
use Rattle.store_model.specs.Valid.{IsValidBook}
use Rattle.meta_model.specs.declared.event.Avail.TheVariants.{Missing, Object}
use Rattle.store_model.specs.Available.{IsAvailable}
use Rattle.store_model.specs.Signatures.{Signed, signatures}
use Rattle.store_model.specs.Spelling.{name_of, signature_bytes}
use Rattle.setscene_plan.specs.Names.{names_over}
use Rattle.build_store.specs.View.{View}
use Rattle.build_store.specs.declared.fault.StoreFault.{StoreFault}
use Rattle.build_store.specs.declared.fault.StoreFault.TheVariants as fault_of
use Rattle.run_model.specs.Report.{tale_text}
use Rattle.run_model.specs.Written.{WritesFront}
use Rattle.run_queue.specs.declared.fault.RunFault.{RunFault}
use Rattle.run_queue.specs.declared.fault.RunFault.TheVariants as ends
use Rattle.run_queue.specs.Opening.{MayRun}
use Rattle.run_model.specs.Opening.{Opening}
use Rattle.run_queue.specs.Causes.{IsCause}
use Rattle.run_model.specs.Causes.{fault_broke}
use Rattle.run_model.specs.Books.{book_after, rows_after}
use Rattle.run_model.specs.Courses.{IsLegalTale}
use Rattle.run_queue.specs.Courses.{IsReal}
use Rattle.run_queue.specs.Seen.{IsBegun, Known, RunView, Seen}
use Rattle.run_model.specs.InFlight.{RunsAfter}
use Rattle.run_model.specs.Stands.{AllStand, HasBroken, HasEnded, IsPlaced, IsSettledIn, WereThere}
use Rattle.run_queue.specs.Flights.{AreFlights, Flies, IsValidWith, KeepOtherObjects, OpenTasks, SameOpen}
use Rattle.run_queue.specs.Mends.{AreMends, both}
use Rattle.run_queue.specs.Stands.{IsLeft, StandSince}

-- ---- in every state

-- What is known is up to date: each task has its name over the rows, no row of a task's name has another signature, what is needed is so
-- by what is there, and what is there has a row.
pub record IsUpToDate (plan : Plan) (rows : List EquivRow) (k : Known) : Type 0 where
  pub names : k.names ≡ names_over rows plan.tasks
  pub clear : (t : ℕ) (s : Signed) → slice_get (signatures rows plan.tasks) t ≡ Some s → IsClear rows (name_of s.sig) (signature_bytes s.sig)
  pub long : length k.avail ≡ length plan.tasks
  pub need : IsNeed plan k.avail k.need
  pub stored : (t : ℕ) (name : Hash) → IsIn k.need t → slice_get k.avail t ≢ Some Missing → slice_get k.names t ≡ Some name → row_at rows name ≢ None

-- the fault isn't that a task's output differs from one run to another
abbrev pub IsSteadyAnswer : StoreFault → Type 0
IsSteadyAnswer fault_of.Disk = Unit {0}
IsSteadyAnswer (fault_of.Collision name held given) = Unit {0}
IsSteadyAnswer (fault_of.Unsteady pn task held given) = ⊥
IsSteadyAnswer fault_of.Memory = Unit {0}

-- no such fault is kept
abbrev pub IsSteady : Option RunFault → Type 0
IsSteady None = Unit {0}
IsSteady (Some (ends.Store f)) = IsSteadyAnswer f
IsSteady (Some ends.Write) = Unit {0}

-- What every state keeps; `count` is the disk's count of faults.
pub record IsState {D W : Type 0} (count : ℕ) (s : RunView D W) : Type 0 where
  -- the plan is sound, and of each task it is kept whether it was begun
  pub sound : IsSound s.plan
  pub long : length s.begun ≡ length s.plan.tasks
  -- tasks of the plan are being restored, and no more than it has threads
  pub few : length s.restoring ≤ s.plan.threads
  pub among : (t : ℕ) → Contains s.restoring t → t < length s.plan.tasks
  -- each event could be marked, and by the seat that marked it
  pub orderly : EachAfter (IsOrderly s.plan.tasks) s.tale
  -- what is known of the plan's tasks is up to date
  pub current : IfSome s.known (IsUpToDate s.plan s.store.rows)
  -- while no fault is kept neither the disk has failed nor the sink, no call of the store that changes the disk met a fault, and no task broke off
  -- by one; and a kept one has its cause
  pub unharmed : s.fault ≡ None → count ≡ 0
  pub clean : s.fault ≡ None → s.store.faultless ≡ true
  pub heard : s.fault ≡ None → s.sink_failed ≡ false
  pub unbroken : s.fault ≡ None → fault_broke s.tale ≡ false
  pub cause : IfSome s.fault (IsCause count s.plan s.store.rows s.sink_failed)

-- In the tale there is room for what comes of each running task.
abbrev pub HasRoom : ℕ → ℕ → List Fate → Type 0
HasRoom capacity events fates = events + running_count fates ≤ capacity

-- ---- where the opening is kept

-- How the output of a task is there, by its signature over the rows as they are now, in what was held when the run began.
abbrev pub WasThere : Opening → Seen → ℕ → Avail → Type 0
WasThere o s t a = (sg : Signed) → slice_get (signatures s.rows s.plan.tasks) t ≡ Some sg → IsAvailable o.story.held s.rows s.options.setscene sg a

-- What was written behind the base is this text or, where the sink failed, some front of it.
pub record Prints (base now text : List ℕ) (failed : Bool) : Type 0 where
  pub whole : OnFalse failed (now ≡ base ++ text)
  pub front : OnTrue failed (WritesFront base now text)

-- a text begins with this one
pub record IsFront (front text : List ℕ) : Type 0 where
  pub rest : List ℕ
  pub is : text ≡ front ++ rest

-- where the sink's count of faults told just whether the sink had failed, it does so still
abbrev pub KeepsCount : {D W : Type 0} → (W → ℕ) → RunView D W → RunView D W → Type 0
KeepsCount faults old new =
    (before : ℕ) → Counts before (faults old.sink) old.sink_failed → Counts before (faults new.sink) new.sink_failed

-- where the tale was written, the tale that it became is
abbrev pub PrintsOn : {D W : Type 0} → (W → List ℕ) → RunView D W → RunView D W → Type 0
PrintsOn written old new =
    (base : List ℕ) → Prints base (written old.sink) (tale_text old.plan.tasks old.tale) old.sink_failed
    → Prints base (written new.sink) (tale_text old.plan.tasks new.tale) new.sink_failed

-- what was written stays in front of what is
abbrev pub KeepsFront : {D W : Type 0} → (W → List ℕ) → RunView D W → RunView D W → Type 0
KeepsFront written old new = (front : List ℕ) → IsFront front (written old.sink) → IsFront front (written new.sink)

-- What had been answered of a task that was begun and hasn't ended: its output was there as an object when the run began; or it was missing then,
-- and the task runs, so that its publication may be open.
abbrev pub WasAnswered : Opening → Seen → ℕ → Avail → Type 0
WasAnswered o s t there = WasThere o s t there × ((there ≡ Object) ⊎ ((there ≡ Missing) × ((seat : ℕ) × RunsAfter s.plan s.tale t seat)))

-- Where a task is told of that was begun: it was placed; or it runs; or a fault is kept, and the tale breaks the task off; or it is being restored, or was
-- as a fault was met.
abbrev pub IsToldOf : Opening → Seen → ℕ → Type 0
IsToldOf o s t =
    IsPlaced s.tale t
    ⊎ (((seat : ℕ) × RunsAfter s.plan s.tale t seat)
    ⊎ ((IsSome s.fault × HasBroken s.tale t)
    ⊎ (Contains s.restoring t × WasThere o s t Object)))

-- What a run keeps besides over an opening whose premises hold, whenever a turn has been taken.
pub record IsRun (o : Opening) (s : Seen) : Type 0 where
  pub may : MayRun o s.plan
  -- the book grows by the lines of what ended, and the rows are its rows
  pub rows : s.rows ≡ rows_after o s.plan s.tale
  pub lines : Book
  pub grown : book_after o.gives s.plan o.book s.tale ≡ o.book ++ lines
  -- the lines behind the opening's are of tasks that were begun
  pub own : (line : Line) → HasLine lines line → (t : ℕ) (task : PlanTask) → slice_get s.plan.tasks t ≡ Some task → line.sig.pn ≡ task.id.pn → line.sig.task ≡ task.id.task → IsBegun s t
  -- and all lines can be read again
  pub readable : AllByRecursion IsReadable (o.book ++ lines)
  -- the publications that are open, with the signatures of their tasks, and the restorings
  pub opened : OpenTasks
  pub mends : OpenTasks
  -- while no fault is kept that is a valid book, and these are the store's, each publication of a task in hand, which is begun, and each restoring of one
  -- that waits; so a publication is open of each task that is begun and runs
  pub book : s.fault ≡ None → IsValidBook o.gives o.reading (o.book ++ lines)
  pub open_are : s.fault ≡ None → SameOpen (both opened mends) s.opened
  pub flights : s.fault ≡ None → AreFlights o s.plan s.tale opened
  pub mending : s.fault ≡ None → AreMends o s.plan s.rows s.begun s.tale s.restoring mends
  pub touched : s.fault ≡ None → (t : ℕ) → Flies s.plan opened t → IsBegun s t
  pub flying : s.fault ≡ None → (t seat : ℕ) → RunsAfter s.plan s.tale t seat → IsBegun s t → Flies s.plan opened t
  -- what a crash leaves now is valid with the book and some lines in flight, and has the objects of tasks that haven't ended, and of which nothing is
  -- open, as they were when the run began
  pub durable : s.fault ≡ None → EachNow s.story (IsValidWith o s.plan s.tale opened)
  pub objects : s.fault ≡ None → EachNow s.story (KeepOtherObjects o s.plan s.tale opened)
  -- the run began, and each event came, at a moment that is not to come
  pub later : moment o.story ≤ moment s.story
  pub marked : (k : ℕ) (entry : Logged) → slice_get s.tale k ≡ Some entry → entry.moment ≤ moment s.story
  -- where no line of it has the name of a task and another signature, the plan may reuse the book as it is now
  pub reusable : HasNoCollision (book_after o.gives s.plan o.book s.tale) s.rows s.plan.tasks → MayReuse o.gives o.reading o.story.held (book_after o.gives s.plan o.book s.tale) s.plan.tasks
  -- the tale is legal; what it finds, restores and starts was there so when the run began, or missing; and each failure in it is one that the clean
  -- build says
  pub legal : IsLegalTale o s.plan s.options s.tale
  pub were_there : WereThere o s.plan s.options s.tale
  pub real : (k : ℕ) (entry : Logged) → slice_get s.tale k ≡ Some entry → IsReal o.gives s.plan.tasks entry.event
  -- the name of each settled task has a row
  pub stored : (t : ℕ) (sg : Signed) → IsSettledIn s.plan s.tale t → slice_get (signatures s.rows s.plan.tasks) t ≡ Some sg → row_at s.rows (name_of sg.sig) ≢ None
  -- a task that runs was missing when the run began; what is known of needed tasks that haven't ended was so then; so was, while no fault is kept,
  -- what was answered of those that were begun and haven't ended; and the output of a settled task that didn't end was there then
  pub missing : (t seat : ℕ) → RunsAfter s.plan s.tale t seat → WasThere o s t Missing
  pub there : IfSome s.known (λ k. (t : ℕ) (a : Avail) → IsIn k.need t → (HasEnded s.plan s.tale t → ⊥) → slice_get k.avail t ≡ Some a → WasThere o s t a)
  pub answered : s.fault ≡ None → (t : ℕ) (a : Avail) → slice_get s.begun t ≡ Some (Some a) → (HasEnded s.plan s.tale t → ⊥) → WasAnswered o s t a
  pub met : (t : ℕ) → IsSettledIn s.plan s.tale t → (HasEnded s.plan s.tale t → ⊥) → (a : Avail) × WasThere o s t a × (a ≢ Missing)
  -- each task that was begun is told of
  pub told : (t : ℕ) → IsBegun s t → IsToldOf o s t
  -- whatever a crash left was left before the run began, or it is valid with what had ended and lines of tasks that ran, has no stamp that lies,
  -- and has the tasks that weren't begun as they were
  pub images : (t : ℕ) (image : Store) → t ≤ moment o.story → IsImageSince s.story t image → IsImageSince o.story t image ⊎ IsLeft o s.plan s.begun s.tale image
  -- settled tasks stand, now and since the moment of their events
  pub stands : EachNow s.story (AllStand o s.plan s.tale)
  pub settled : StandSince o s

-- ---- how a run begins

-- the opening of a run over a store that was just opened
pub record IsOpening (o : Opening) (story : Story) (rows : List EquivRow) : Type 0 where
  pub story_is : o.story ≡ story
  pub rows_are : rows ≡ rows_of o.book

-- the state of a run that begins
pub record Begun {D W : Type 0} (plan : Plan) (options : Options) (store : View D) (sink : W) (s : RunView D W) : Type 0 where
  pub plan_is : s.plan ≡ plan
  pub options_are : s.options ≡ options
  pub store_is : s.store ≡ store
  pub sink_is : s.sink ≡ sink
  pub stands : s.sink_failed ≡ false
  pub no_fault : s.fault ≡ None
  pub no_tale : s.tale ≡ []
  pub none_restored : s.restoring ≡ []
