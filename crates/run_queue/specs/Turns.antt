-- What one turn does to a run's tale.
use Rattle.std.specs.Prelude.{◌≡◌, ◌≢◌, ◌⊎◌, ◌≤◌, ◌+◌, ◌*◌, ◌-◌, ◌^◌, min, ℕ, Bool, true, false, not, List, [], ◌∷◌, ◌++◌, Contains, filter, length, nat_eq, set, Option, Some, None, IfSome, IsSome, Result, Ok, Err, map}
use Rattle.std.specs.List.{slice_get}
use Rattle.tree_model.specs.declared.text.Mem.{Mem}
use Rattle.outside_traits.specs.Story.{Story, moment}
use Rattle.meta_model.specs.declared.event.Avail.{Avail}
use Rattle.meta_model.specs.declared.event.Avail.TheVariants.{Missing, Object}
use Rattle.meta_model.specs.declared.event.Cut.{Cut}
use Rattle.meta_model.specs.declared.event.Cut.TheVariants as cut
use Rattle.meta_model.specs.declared.event.Event.{Event}
use Rattle.meta_model.specs.declared.event.Event.TheVariants as events
use Rattle.meta_model.specs.declared.event.Logged.{Logged}
use Rattle.meta_model.specs.declared.event.Why.{Why}
use Rattle.meta_model.specs.declared.event.Why.TheVariants as why
use Rattle.meta_model.specs.declared.plan.PlanTask.{PlanTask}
use Rattle.meta_model.specs.CleanBuild.{Gives, is_beyond_layout}
use Rattle.tale_model.specs.declared.fate.Fate.TheVariants.{Running}
use Rattle.tale_model.specs.Choice.{IsFinished}
use Rattle.tale_model.specs.Fates.{HoldsFailure, fate_at, fates_told}
use Rattle.tale_model.specs.History.{Course}
use Rattle.tale_model.specs.Need.{IsIn}
use Rattle.run_model.specs.Layouts.{layout_over}
use Rattle.run_model.specs.CleanOutputs.{AreClean}
use Rattle.run_model.specs.Courses.{IsCourse}
use Rattle.run_model.specs.Opening.{Opening}
use Rattle.run_model.specs.Outcome.{IsAtEnd}
use Rattle.run_core.specs.declared.next.Next.{Next}
use Rattle.run_core.specs.declared.next.Next.TheVariants as next
use Rattle.run_core.specs.Choice.{CannotGoOn, CannotGoOnBeside, MayAnswer, MayAnswerBeside}
use Rattle.run_core.specs.Fates.{SomeRuns}
use Rattle.store_model.specs.Available.{task_folder}
use Rattle.build_store.specs.View.{SameBooks, opened_at}
use Rattle.task_worker.specs.declared.given.Given.{Given}
use Rattle.task_worker.specs.declared.given.Given.TheVariants as given
use Rattle.task_worker.specs.declared.given.Job.{Job}
use Rattle.task_worker.specs.Jobs.{job_output, outcome_of}
use Rattle.task_worker.specs.OneTask.{placing_of}
use Rattle.run_queue.specs.declared.closing.Ending.{Ending}
use Rattle.run_queue.specs.declared.closing.Ending.TheVariants as ending
use Rattle.run_queue.specs.declared.restoring.Mending.{Mending}
use Rattle.run_queue.specs.declared.restoring.Mending.TheVariants as mending
use Rattle.run_queue.specs.declared.restoring.Restoring.{Restoring}
use Rattle.run_queue.specs.declared.restoring.Restoring.TheVariants as restoring
use Rattle.run_queue.specs.declared.state.Claim.{Claim}
use Rattle.run_queue.specs.declared.state.Claim.TheVariants as claim
use Rattle.run_queue.specs.Seen.{IsBegunIn, Known, RunView, Seen}

-- one event more, marked by a seat
pub record Marks (seat : ℕ) (event : Event) (old new : List Logged) : Type 0 where
  pub moment : ℕ
  pub is : new ≡ old ++ record { event = event; seat = seat; moment = moment } ∷ []

-- the job of a task of the plan, which began under a seat
pub record Begins (seat : ℕ) (tasks : List PlanTask) (old new : List Logged) (job : Job) : Type 0 where
  pub task : PlanTask
  pub is_task : slice_get tasks job.task ≡ Some task
  pub script : job.script ≡ task.script
  pub marks : Marks seat (events.Started job.task seat) old new

-- a task was found or restored, or failed since its layout is too large
abbrev pub Settles : ℕ → ℕ → List Logged → List Logged → Type 0
Settles seat t old new = Marks seat (events.Found t) old new ⊎ (Marks seat (events.Restored t) old new ⊎ Marks seat (events.Failed t why.TooLarge) old new)

abbrev pub fates_of : {D W : Type 0} → RunView D W → List Rattle.tale_model.specs.declared.fate.Fate.Fate
fates_of s = fates_told (length s.plan.tasks) s.tale

-- by what is known of the plan's tasks none of them is ready, and none can be settled, but for those that are being restored
pub record IsIdle {D W : Type 0} (s : RunView D W) : Type 0 where
  pub known : Known
  pub is_known : s.known ≡ Some known
  pub idle : (t : ℕ) → CannotGoOnBeside s.plan.tasks known.need known.avail (fates_of s) s.restoring t

-- nothing is begun, since as many tasks are being restored as there may be, or an end waits for those that are
abbrev pub IsHeldUp : {D W : Type 0} → RunView D W → Type 0
IsHeldUp s = (s.plan.threads ≤ length s.restoring) ⊎ (s.ends_wait ≡ true)

-- nothing is being restored, or a fault is kept
abbrev pub AreHandsFree : {D W : Type 0} → RunView D W → Type 0
AreHandsFree s = (s.restoring ≡ []) ⊎ IsSome s.fault

-- the tasks but this one
abbrev pub without : ℕ → List ℕ → List ℕ
without t tasks = filter (λ u. not (nat_eq u t)) tasks

-- What a claim does, by its answer. With Wait another seat's task runs, or is being restored, and no other task can go on, or nothing is begun for those that
-- are being restored. Stopped comes only where a task failed without `keep_going`, or a fault is kept.
abbrev pub Claims : {D W : Type 0} → ℕ → RunView D W → RunView D W → Result Claim Mem → Type 0
Claims seat old new (Ok (claim.Run job)) = Begins seat old.plan.tasks old.tale new.tale job
Claims seat old new (Ok (claim.Settled t)) = Settles seat t old.tale new.tale
Claims seat old new (Ok (claim.Restore t)) = new.tale ≡ old.tale
Claims seat old new (Ok claim.Wait) = (new.tale ≡ old.tale) × (SomeRuns (fates_of old) ⊎ (new.restoring ≢ [])) × (IsIdle new ⊎ IsHeldUp new)
Claims seat old new (Ok claim.Finished) = (new.tale ≡ old.tale) × IsAtEnd old.plan old.options old.tale
Claims seat old new (Ok claim.Stopped) = (new.tale ≡ old.tale) × ((HoldsFailure (fates_of old) × (old.options.keep_going ≡ false)) ⊎ IsSome new.fault)
Claims seat old new (Err e) = new.tale ≡ old.tale

-- Which tasks are being restored behind a claim: one more, where that is its answer, and else the same ones, unless a fault is kept.
abbrev pub RestoresBy : {D W : Type 0} → RunView D W → RunView D W → Result Claim Mem → Type 0
RestoresBy old new (Ok (claim.Restore t)) = new.restoring ≡ old.restoring ++ t ∷ []
RestoresBy old new answer = (new.restoring ≡ old.restoring) ⊎ IsSome new.fault

-- What is known says that there is an object of a task; none turned out to be there, which is kept, and nothing is known any more.
pub record GivesUp {D W : Type 0} (old new : RunView D W) : Type 0 where
  pub task : ℕ
  pub known : Known
  pub is_known : old.known ≡ Some known
  pub needed : IsIn known.need task
  pub object : slice_get known.avail task ≡ Some Object
  pub begun : new.begun ≡ set old.begun task (Some Missing)
  pub unknown : new.known ≡ None

-- 0 for a task of which it is kept that its output is missing
abbrev pub try_once : Option Avail → ℕ
try_once (Some Missing) = 0
try_once _ = 1

-- of how many tasks it isn't
abbrev pub tries_of : List (Option Avail) → ℕ
tries_of [] = 0
tries_of (b ∷ begun) = try_once b + tries_of begun

-- 1 where something is known
abbrev pub known_once : Option Known → ℕ
known_once None = 0
known_once (Some k) = 1

-- How often a claim may still find that there is no object, at most.
abbrev pub tries_left : {D W : Type 0} → RunView D W → ℕ
tries_left s = 2 * tries_of s.begun + known_once s.known

-- What is known says that each needed task is missing of which that is kept.
abbrev pub Remembers : {D W : Type 0} → RunView D W → Type 0
Remembers s = IfSome s.known (λ k. (t : ℕ) → IsIn k.need t → slice_get s.begun t ≡ Some (Some Missing) → slice_get k.avail t ≡ Some Missing)

-- The layout of a job is the clean build's: over the clean outputs of the tasks that the task needs, and within the limits.
pub record IsCleanJob (o : Opening) (s : Seen) (job : Job) : Type 0 where
  pub task : PlanTask
  pub is_task : slice_get s.plan.tasks job.task ≡ Some task
  pub outputs : List (ℕ × List (List ℕ × Rattle.tree_model.specs.declared.entry.Entry.Entry))
  pub numbers : map (λ x. x.0) outputs ≡ task.deps
  pub clean : AreClean o.gives s.plan.tasks outputs
  pub script : job.script ≡ task.script
  pub layout : job.layout ≡ layout_over s.plan.tasks task outputs
  pub placing : job.placing ≡ placing_of task
  pub within : is_beyond_layout job.layout ≡ false

-- What a claim's answer says where the disk tells: the job is the clean build's; with Wait no task can go on, where none was being restored and no end waits
-- for one, and with Finished nothing is left to do, in each course of the run.
abbrev pub ClaimsClean : Opening → Bool → Seen → Result Claim Mem → Type 0
ClaimsClean o waits s (Ok (claim.Run job)) = IsCleanJob o s job
ClaimsClean o waits s (Ok (claim.Settled t)) = Unit {0}
ClaimsClean o waits s (Ok (claim.Restore t)) = Unit {0}
ClaimsClean o waits s (Ok claim.Wait) = s.restoring ≡ [] → waits ≡ false → (course : Course) → course.plan ≡ s.plan → IsCourse o s.options s.tale course → (t : ℕ) → CannotGoOn s.plan.tasks (course.need (length s.tale)) (course.avail (length s.tale)) (fates_told (length s.plan.tasks) s.tale) t
ClaimsClean o waits s (Ok claim.Finished) = (course : Course) → course.plan ≡ s.plan → IsCourse o s.options s.tale course → IsFinished s.options s.plan.tasks (course.need (length s.tale)) (course.avail (length s.tale)) (fates_told (length s.plan.tasks) s.tale)
ClaimsClean o waits s (Ok claim.Stopped) = Unit {0}
ClaimsClean o waits s (Err e) = Unit {0}

-- What was given is what the job gives.
abbrev pub IsGivenBy : Gives → Job → Given → Type 0
IsGivenBy run job g = job_output run job ≡ outcome_of g

-- the event that closes a job, where nothing was wanting
abbrev pub closed_as : ℕ → Given → Event
closed_as t (given.Tree tree manifest) = events.Ended t
closed_as t (given.Fails status) = events.Failed t (why.Status status)
closed_as t given.TooLarge = events.Failed t why.TooLarge

-- the event that closes a job, of which this is handed over, or of which the store has the tree
abbrev pub closed_by : ℕ → Option Given → Event
closed_by t (Some g) = closed_as t g
closed_by t None = events.Ended t

-- more is left: nothing is marked, and no fault is kept
pub record GoesOn {D W : Type 0} (old new : RunView D W) : Type 0 where
  pub tale : new.tale ≡ old.tale
  pub sound : old.fault ≡ None
  pub fault : new.fault ≡ None

-- What becomes of a job that is done in a turn, by its answer: more is left; or it is closed as it was given, or it broke: with Memory exactly where
-- the answer is want of memory, with Fault only where a fault is kept, and always where one was kept before. A fault that is met once the output was
-- published, as the store is asked anew or the line is written, is kept, and the job is closed all the same. Want of memory in a publication is kept
-- as a fault too: what that left on the disk has no row, and nothing is published behind it.
abbrev pub EndsTurn : {D W : Type 0} → ℕ → ℕ → Option Given → RunView D W → RunView D W → Result Ending Mem → Type 0
EndsTurn seat t g old new (Err e) = Marks seat (events.Broke t cut.Memory) old.tale new.tale × IsSome new.fault
EndsTurn seat t g old new (Ok ending.More) = GoesOn old new
EndsTurn seat t g old new (Ok ending.Wait) = GoesOn old new
EndsTurn seat t g old new (Ok ending.Closed) =
    (Marks seat (closed_by t g) old.tale new.tale × (old.fault ≡ None))
    ⊎ (Marks seat (events.Broke t cut.Fault) old.tale new.tale × IsSome new.fault)

-- One try of a turn with nothing handed over: no publication of the task was open, and nothing changed but whether an end waits; or what a turn does.
abbrev pub EndsTry : {D W : Type 0} → ℕ → ℕ → RunView D W → RunView D W → Result (Option Ending) Mem → Type 0
EndsTry seat t old new (Ok None) = new ≡ record old { ends_wait = new.ends_wait }
EndsTry seat t old new (Ok (Some e)) = EndsTurn seat t None old new (Ok e)
EndsTry seat t old new (Err e) = EndsTurn seat t None old new (Err e)

-- that the task failed by this cause closes the job
pub record IsFailure (t : ℕ) (cause : Why) (g : Given) : Type 0 where
  pub outcome : outcome_of g ≡ Err cause
  pub closed : closed_as t g ≡ events.Failed t cause

-- A running task failed, by this cause; or that waits for tasks that are being restored; or it broke off for want of memory, which is kept as a fault.
abbrev pub FailsTurn : {D W : Type 0} → ℕ → ℕ → Why → RunView D W → RunView D W → Result Ending Mem → Type 0
FailsTurn seat t cause old new (Err e) = Marks seat (events.Broke t cut.Memory) old.tale new.tale × IsSome new.fault
FailsTurn seat t cause old new (Ok ending.More) = ⊥
FailsTurn seat t cause old new (Ok ending.Wait) = GoesOn old new
FailsTurn seat t cause old new (Ok ending.Closed) = Marks seat (events.Failed t cause) old.tale new.tale

-- what is handed over stays, or it was a tree, and the store has it
abbrev pub HandsOn : ℕ → Option Given → Option Given → Type 0
HandsOn t old new = (new ≡ old) ⊎ ((new ≡ None) × (closed_by t old ≡ events.Ended t))

-- Something may have been put for the task: a publication of it is open, or, where a fault is kept, its publishing or restoring was begun.
abbrev pub MayHavePut : {D W : Type 0} → RunView D W → ℕ → Type 0
MayHavePut s t = ((own : PlanTask) → slice_get s.plan.tasks t ≡ Some own → IsSome (opened_at s.store.opened (task_folder own))) ⊎ (IsSome s.fault × IsBegunIn s.begun t)

-- The task broke off so; or, where something may have been put for it, and a fault is kept, by another cut than its bench's.
pub record BreaksOff {D W : Type 0} (seat t : ℕ) (asked : Cut) (old new : RunView D W) : Type 0 where
  pub broke : Cut
  pub marks : Marks seat (events.Broke t broke) old.tale new.tale
  pub as_asked : (broke ≡ asked) ⊎ ((broke ≢ cut.Bench) × IsSome new.fault)
  pub only_then : (broke ≡ asked) ⊎ MayHavePut old t

-- the job's task runs under this seat
abbrev pub RunsUnder : {D W : Type 0} → RunView D W → ℕ → ℕ → Type 0
RunsUnder s t seat = fate_at (fates_of s) t ≡ Running seat

-- after a fault the store isn't called again
abbrev pub RestsAfterFault : {D W : Type 0} → RunView D W → RunView D W → Type 0
RestsAfterFault old new = IsSome old.fault → (new.store ≡ old.store) × (new.fault ≡ old.fault)

-- No fault is kept, and nothing but what is known of the plan's tasks, what is begun, whether an end waits, and the store may have changed.
pub record IsAnew {D W : Type 0} (old new : RunView D W) : Type 0 where
  pub plan : new.plan ≡ old.plan
  pub options : new.options ≡ old.options
  pub sink : new.sink ≡ old.sink
  pub sink_failed : new.sink_failed ≡ old.sink_failed
  pub fault : new.fault ≡ None
  pub tale : new.tale ≡ old.tale
  pub restoring : new.restoring ≡ old.restoring
  pub ends_wait : new.ends_wait ≡ old.ends_wait

-- One try of a claim, by its answer: what a claim does with that answer; or a task turned out to have no object, and nothing was marked.
abbrev pub TurnsTo : {D W : Type 0} → ℕ → RunView D W → RunView D W → Result (Option Claim) Mem → Type 0
TurnsTo seat old new (Ok (Some c)) = Claims seat old new (Ok c)
TurnsTo seat old new (Ok None) = IsAnew old new
TurnsTo seat old new (Err e) = new.tale ≡ old.tale

abbrev pub TurnsClean : Opening → Bool → Seen → Result (Option Claim) Mem → Type 0
TurnsClean o waits s (Ok (Some c)) = ClaimsClean o waits s (Ok c)
TurnsClean o waits s (Ok None) = Unit {0}
TurnsClean o waits s (Err e) = Unit {0}

abbrev pub TurnsRestore : {D W : Type 0} → RunView D W → RunView D W → Result (Option Claim) Mem → Type 0
TurnsRestore old new (Ok (Some c)) = RestoresBy old new (Ok c)
TurnsRestore old new (Ok None) = Unit {0}
TurnsRestore old new (Err e) = (new.restoring ≡ old.restoring) ⊎ IsSome new.fault

-- the name of a run
pub record SameRun {D W : Type 0} (old new : RunView D W) : Type 0 where
  pub plan : new.plan ≡ old.plan
  pub options : new.options ≡ old.options

-- one event more, at the disk's moment
pub record MarksAt (story : Story) (seat : ℕ) (event : Event) (old new : List Logged) : Type 0 where
  pub is : new ≡ old ++ record { event = event; seat = seat; moment = min (moment story) (2 ^ 64 - 1) } ∷ []

-- nothing but the sink, whether it has failed, and the fault may have changed
pub record SameButSink {D W : Type 0} (old new : RunView D W) : Type 0 where
  pub plan : new.plan ≡ old.plan
  pub options : new.options ≡ old.options
  pub store : new.store ≡ old.store
  pub tale : new.tale ≡ old.tale
  pub begun : new.begun ≡ old.begun
  pub restoring : new.restoring ≡ old.restoring
  pub known : new.known ≡ old.known

-- nothing but the sink, whether it has failed, and the fault may have changed, and one event more stands in the tale
pub record Notes {D W : Type 0} (seat : ℕ) (event : Event) (old new : RunView D W) : Type 0 where
  pub plan : new.plan ≡ old.plan
  pub options : new.options ≡ old.options
  pub store : new.store ≡ old.store
  pub marks : Marks seat event old.tale new.tale
  pub begun : new.begun ≡ old.begun
  pub restoring : new.restoring ≡ old.restoring
  pub known : new.known ≡ old.known

-- what is known gives this answer to the question what is next
pub record MayDo {D W : Type 0} (s : RunView D W) (answer : Next) : Type 0 where
  pub known : Known
  pub is_known : s.known ≡ Some known
  pub may : MayAnswerBeside s.options s.plan.tasks known.need known.avail (fates_of s) s.restoring answer

-- what is known gives that a task can be settled, from its object, be it in hand or not
pub record MayRestore {D W : Type 0} (s : RunView D W) (t : ℕ) : Type 0 where
  pub known : Known
  pub is_known : s.known ≡ Some known
  pub may : MayAnswer s.options s.plan.tasks known.need known.avail (fates_of s) (next.Settle t)
  pub object : slice_get known.avail t ≡ Some Object

-- What the opening of a restoring does, by its answer: the task is being restored; or it has no object, which is kept, and nothing is known of the
-- plan's tasks any more; or a fault is kept. So is want of memory, since the task's folder may have been touched; where there was none for the note that the
-- task is being restored nothing changed.
abbrev pub OpensTo : {D W : Type 0} → ℕ → RunView D W → RunView D W → Result Restoring Mem → Type 0
OpensTo t old new (Ok restoring.Opened) = (new.tale ≡ old.tale) × (new.restoring ≡ old.restoring ++ t ∷ [])
OpensTo t old new (Ok restoring.Gone) = IsAnew old new × GivesUp old new
OpensTo t old new (Ok restoring.Fault) = (new.tale ≡ old.tale) × IsSome new.fault
OpensTo t old new (Err e) = new ≡ old

-- What a turn of a restoring does, by its answer: more is left; or the task was marked as restored, and is in hand no more; or it wasn't in hand, and nothing
-- changed; or a fault is kept.
abbrev pub MendsTo : {D W : Type 0} → ℕ → ℕ → RunView D W → RunView D W → Mending → Type 0
MendsTo seat t old new mending.More = GoesOn old new × (new.restoring ≡ old.restoring)
MendsTo seat t old new mending.Wait = GoesOn old new × (new.restoring ≡ old.restoring)
MendsTo seat t old new mending.Closed =
    (old.fault ≡ None)
    × ((Marks seat (events.Restored t) old.tale new.tale × (new.restoring ≡ without t old.restoring))
    ⊎ ((new ≡ old) × (Contains old.restoring t → ⊥)))
MendsTo seat t old new mending.Stopped = (new.tale ≡ old.tale) × IsSome new.fault

-- nothing but what is known of the plan's tasks, the disk, and the fault may have changed
pub record Looks {D W : Type 0} (old new : RunView D W) : Type 0 where
  pub plan : new.plan ≡ old.plan
  pub options : new.options ≡ old.options
  pub books : SameBooks old.store new.store
  pub sink : new.sink ≡ old.sink
  pub sink_failed : new.sink_failed ≡ old.sink_failed
  pub tale : new.tale ≡ old.tale
  pub begun : new.begun ≡ old.begun
  pub restoring : new.restoring ≡ old.restoring
  pub ends_wait : new.ends_wait ≡ old.ends_wait

-- nothing but the fault may have changed
pub record SameButFault {D W : Type 0} (old new : RunView D W) : Type 0 where
  pub plan : new.plan ≡ old.plan
  pub options : new.options ≡ old.options
  pub store : new.store ≡ old.store
  pub sink : new.sink ≡ old.sink
  pub sink_failed : new.sink_failed ≡ old.sink_failed
  pub tale : new.tale ≡ old.tale
  pub begun : new.begun ≡ old.begun
  pub restoring : new.restoring ≡ old.restoring
  pub known : new.known ≡ old.known

-- By which cut a running task breaks off that is to break off by this one: it is that, and no publication of the task is open, or where a fault is kept
-- it isn't begun; or something may have been put for it, a fault is kept, and it is another cut than its bench's.
abbrev pub BreaksBy : {D W : Type 0} → ℕ → Cut → Cut → RunView D W → RunView D W → Type 0
BreaksBy t asked broke old new =
    ((broke ≡ asked) × (((old.fault ≡ None) × ((own : PlanTask) → slice_get old.plan.tasks t ≡ Some own → opened_at old.store.opened (task_folder own) ≡ None)) ⊎ (slice_get old.begun t ≡ Some None)))
    ⊎ ((broke ≢ cut.Bench) × IsSome new.fault × MayHavePut old t)
