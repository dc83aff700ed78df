-- What follows for the tale of a run and its end.
use Rattle.std.specs.Prelude.{◌≡◌, ℕ, false, List, [], ◌∷◌, ◌++◌, length, map, replicate, true, Contains, Some, None, Ok, Err}
use Rattle.std.specs.List.{slice_get}
use Rattle.outside_traits.specs.Store.{Store}
use Rattle.outside_traits.specs.Story.{IsImage}
use Rattle.meta_model.specs.declared.event.Logged.{Logged}
use Rattle.meta_model.specs.declared.plan.Options.{Options}
use Rattle.meta_model.specs.declared.plan.Plan.{Plan}
use Rattle.meta_model.specs.declared.plan.PlanTask.{PlanTask}
use Rattle.meta_model.specs.CleanBuild.{Built, Entries, Gives, clean_build, is_beyond_layout, fails as own_failure}
use Rattle.meta_model.specs.declared.event.Why.{Why}
use Rattle.run_core.specs.declared.next.Next.{Next}
use Rattle.plan_model.specs.Sound.{AreWanted, IsSound}
use Rattle.run_core.specs.Choice.{MayAnswer}
use Rattle.tale_model.specs.Fates.{HoldsFailure, IsFree, fate_at, fates_told}
use Rattle.tale_model.specs.declared.fate.Fate.TheVariants.{Running}
use Rattle.task_worker.specs.declared.given.Given.{Given}
use Rattle.task_worker.specs.declared.given.Job.{Job}
use Rattle.task_worker.specs.Jobs.{job_output}
use Rattle.run_model.specs.Layouts.{layout_over}
use Rattle.run_model.specs.CleanOutputs.{AreClean}
use Rattle.task_worker.specs.OneTask.{job_of}
use Rattle.tale_model.specs.History.{Course, EachAfter, MayCome, layout_too_large}
use Rattle.run_core.specs.History.{IsOrderly, marked_for}
use Rattle.store_model.specs.Available.{HoldsClean, work_folder}
use Rattle.meta_model.specs.declared.event.Event.TheVariants as events
use Rattle.store_model.specs.declared.signature.EquivRow.{EquivRow}
use Rattle.store_model.specs.Lasting.{IsGrown}
use Rattle.store_model.specs.Origins.{Book, Reading, rows_of}
use Rattle.store_model.specs.Premises.{HasNoCollision, HasOneKey}
use Rattle.store_model.specs.Recording.{NeedsHaveRows, recorded, with_record}
use Rattle.store_model.specs.Rows.{row_at}
use Rattle.store_model.specs.Signatures.{Signed, signatures}
use Rattle.store_model.specs.Spelling.{name_of}
use Rattle.run_queue.specs.Opening.{MayRun}
use Rattle.run_model.specs.Opening.{Opening}
use Rattle.run_model.specs.Books.{book_after, book_by}
use Rattle.run_model.specs.Courses.{IsCourse, IsLegalTale, clean_says, said}
use Rattle.run_queue.specs.Keeps.{IsRun, IsUpToDate}
use Rattle.run_queue.specs.Seen.{Known, Seen}
use Rattle.run_model.specs.Outcome.{IsAtEnd}
use Rattle.run_queue.specs.Turns.{IsCleanJob, IsGivenBy, closed_as}

-- how the state of a run begins, as plain values, over an opening
abbrev pub at_begin : Opening → Plan → Options → List ℕ → Seen
at_begin o plan options written = record {
  plan = plan;
  options = options;
  rows = rows_of o.book;
  kept = [];
  opened = [];
  sink_failed = false;
  fault = None;
  tale = [];
  begun = replicate (length plan.tasks) None;
  restoring = [];
  known = None;
  story = o.story;
  written = written;
}

-- Where the premises hold a run begins with all that it keeps.
abbrev pub BeginIsRun : Type 0
BeginIsRun = (o : Opening) (plan : Plan) (options : Options) (written : List ℕ) → MayRun o plan → IsRun o (at_begin o plan options written)

-- One more entry changes the book by its event alone.
abbrev pub BookGrows : Type 0
BookGrows = (gives : Gives) (plan : Plan) (book : Book) (tale : List Logged) (e : Logged) → book_after gives plan book (tale ++ e ∷ []) ≡ book_by gives plan (book_after gives plan book tale) e.event

-- A course of a longer tale is one of its front.
abbrev pub CourseOfFront : Type 0
CourseOfFront = (o : Opening) (options : Options) (tale : List Logged) (e : Logged) (course : Course) → IsCourse o options (tale ++ e ∷ []) course → IsCourse o options tale course

-- A legal tale grows by an entry that may come in each course.
abbrev pub LegalGrows : Type 0
LegalGrows = (o : Opening) (plan : Plan) (options : Options) (tale : List Logged) (e : Logged) → IsLegalTale o plan options tale →
    ((course : Course) → course.plan ≡ plan → IsCourse o options (tale ++ e ∷ []) course → MayCome course tale e) → IsLegalTale o plan options (tale ++ e ∷ [])

-- At the end of a run in which no task failed each target's work folder holds its clean output, whatever a crash leaves.
abbrev pub ExactAtEnd : Type 0
ExactAtEnd = (o : Opening) (s : Seen) → IsRun o s → IsAtEnd s.plan s.options s.tale → (HoldsFailure (fates_told (length s.plan.tasks) s.tale) → ⊥) →
    (image : Store) → IsImage s.story image → (t : ℕ) (task : PlanTask) (built : Built) → Contains s.plan.targets t → slice_get s.plan.tasks t ≡ Some task → slice_get (clean_build o.gives s.plan.tasks) t ≡ Some built → HoldsClean image (work_folder task) built

-- An entry that says that a task ended, whose needed tasks' names all have rows and whose clean output is a tree, grows the book by that
-- task's line, or leaves it, where its name has a row.
abbrev pub EndedGrows : Type 0
EndedGrows = (gives : Gives) (plan : Plan) (book : Book) (t : ℕ) (s : Signed) (built : Built) (tree : Entries) → slice_get (signatures (rows_of book) plan.tasks) t ≡ Some s → slice_get (clean_build gives plan.tasks) t ≡ Some built → built.outcome ≡ Ok tree →
    (row_at (rows_of book) (name_of s.sig) ≡ None → book_by gives plan book (events.Ended t) ≡ book ++ recorded (rows_of book) s tree ∷ [])
    × ((row : EquivRow) → row_at (rows_of book) (name_of s.sig) ≡ Some row → book_by gives plan book (events.Ended t) ≡ book)

-- So the book after such an entry is one step further of what a run makes of a store by recording, where no line has another key of the digest of the
-- task's, and none then the name of a task of the plan and another signature.
abbrev pub EndedIsStep : Type 0
EndedIsStep = (gives : Gives) (reading : Reading) (plan : Plan) (start now : Store) (first book : Book) → IsGrown gives reading plan.tasks start first now book →
    (t : ℕ) (s : Signed) (built : Built) (tree : Entries) → slice_get (signatures (rows_of book) plan.tasks) t ≡ Some s → slice_get (clean_build gives plan.tasks) t ≡ Some built → built.outcome ≡ Ok tree →
    NeedsHaveRows (rows_of book) (signatures (rows_of book) plan.tasks) s.task → row_at (rows_of book) (name_of s.sig) ≡ None → HasOneKey book s.sig →
    HasNoCollision (book_by gives plan book (events.Ended t)) (rows_of (book_by gives plan book (events.Ended t))) plan.tasks →
    IsGrown gives reading plan.tasks start first (with_record now (recorded (rows_of book) s tree)) (book_by gives plan book (events.Ended t))

-- What a free seat marks for an answer over what is known of the plan's tasks may come in each course of the run.
abbrev pub ClaimMayCome : Type 0
ClaimMayCome = (o : Opening) (s : Seen) (k : Known) (answer : Next) (e : Logged) → IsRun o s → EachAfter (IsOrderly s.plan.tasks) s.tale → s.known ≡ Some k → IsUpToDate s.plan s.rows k →
    IsFree (fates_told (length s.plan.tasks) s.tale) e.seat → MayAnswer s.options s.plan.tasks k.need k.avail (fates_told (length s.plan.tasks) s.tale) answer →
    marked_for k.avail (clean_says o.gives s.plan.tasks) e.seat answer ≡ Some e.event →
    (course : Course) → course.plan ≡ s.plan → IsCourse o s.options (s.tale ++ e ∷ []) course → MayCome course s.tale e

-- What the clean build says of a task over the clean outputs that it needs: what its job gives, where the layout is within its limits, and
-- else that the layout is too large.
abbrev pub JobIsSaid : Type 0
JobIsSaid = (gives : Gives) (tasks : List PlanTask) (n : ℕ) (task : PlanTask) (outputs : List (ℕ × Entries)) → slice_get tasks n ≡ Some task → map (λ x. x.0) outputs ≡ task.deps → AreClean gives tasks outputs →
    (is_beyond_layout (layout_over tasks task outputs) ≡ false → clean_says gives tasks n ≡ said (job_output gives (job_of n task (layout_over tasks task outputs))))
    × (is_beyond_layout (layout_over tasks task outputs) ≡ true → clean_says gives tasks n ≡ layout_too_large)

-- What closes a job that was done, where what was given is what it gives, may come in each course of the run.
abbrev pub EndMayCome : Type 0
EndMayCome = (o : Opening) (s : Seen) (job : Job) (g : Given) (seat moment : ℕ) → IsCleanJob o s job → IsGivenBy o.gives job g → fate_at (fates_told (length s.plan.tasks) s.tale) job.task ≡ Running seat →
    (course : Course) → course.plan ≡ s.plan → IsCourse o s.options s.tale course → MayCome course s.tale (record { event = closed_as job.task g; seat = seat; moment = moment })

-- A task that failed in the tale of a run fails by itself in the clean build, after all that it needs succeeded.
abbrev pub FailedIsReal : Type 0
FailedIsReal = (o : Opening) (s : Seen) → IsRun o s → (k : ℕ) (entry : Logged) (t : ℕ) (cause : Why) → slice_get s.tale k ≡ Some entry → entry.event ≡ events.Failed t cause → (built : Built) → slice_get (clean_build o.gives s.plan.tasks) t ≡ Some built → built.outcome ≡ Err (own_failure cause)

abbrev pub HasOutput : Gives → Plan → ℕ → Type 0
HasOutput gives plan t = (built : Built) → slice_get (clean_build gives plan.tasks) t ≡ Some built → (tree : Entries) × (built.outcome ≡ Ok tree)

-- Where each target of a sound plan has a clean output, so has every task that is wanted.
abbrev pub AllHaveOutputs : Type 0
AllHaveOutputs = (gives : Gives) (plan : Plan) → IsSound plan → AreWanted plan → ((t : ℕ) → Contains plan.targets t → HasOutput gives plan t) → (t : ℕ) → HasOutput gives plan t
