-- What a run of a plan leaves.
use Rattle.std.specs.Prelude.{◌≡◌, ◌≢◌, ◌⊎◌, ◌<◌, ◌≤◌, ◌+◌, ◌-◌, ◌^◌, ℕ, Bool, true, false, List, [], ◌∷◌, ◌++◌, codes, length, take, Contains, Option, None, Some, Ok, Err}
use Rattle.std.specs.List.{slice_get, AllByRecursion}
use Rattle.sha2.specs.Sha256.{sha256}
use Rattle.tree_model.specs.Path.{IsAtOrBelow}
use Rattle.outside_traits.specs.Passes.{EachNow}
use Rattle.outside_traits.specs.Store.{Store}
use Rattle.outside_traits.specs.Story.{IsImageSince, Story}
use Rattle.meta_model.specs.declared.event.Event.{Event}
use Rattle.meta_model.specs.declared.event.Event.TheVariants as events
use Rattle.meta_model.specs.declared.event.Logged.{Logged}
use Rattle.meta_model.specs.declared.event.Status.{Status}
use Rattle.meta_model.specs.declared.event.Status.TheVariants as status
use Rattle.meta_model.specs.declared.plan.Options.{Options}
use Rattle.meta_model.specs.declared.plan.Plan.{Plan}
use Rattle.meta_model.specs.declared.plan.PlanTask.{PlanTask}
use Rattle.meta_model.specs.CleanBuild.{Built, Entries, Gives, clean_build, fails}
use Rattle.store_model.specs.declared.signature.EquivRow.{EquivRow}
use Rattle.store_model.specs.Available.{HoldsClean, IsInObject, IsInWork, object_folder, stamp_path, work_folder}
use Rattle.store_model.specs.Origins.{Book, Line, Reading, rows_of}
use Rattle.store_model.specs.Signatures.{Signed, signatures}
use Rattle.store_model.specs.Valid.{IsValid}
use Rattle.store_model.specs.Lines.{HasLine, HaveSameLines}
use Rattle.store_model.specs.Opened.{HasNoLitter, IsLeft, IsOpened}
use Rattle.store_model.specs.Readable.{HoldsRecords, IsReadable}
use Rattle.run_model.specs.Report.{tale_text}
use Rattle.run_model.specs.Books.{book_after}
use Rattle.run_model.specs.Causes.{IsClashOf, IsUnsteadyOf}
use Rattle.run_model.specs.Courses.{IsLegalTale}
use Rattle.run_model.specs.Opening.{Opening}
use Rattle.run_model.specs.Own.{IsAside, IsObjectOfNone}
use Rattle.run_model.specs.Stands.{AllStand, HasBroken, HasFinished, HasStarted, IsHonest, IsPlaced, WereThere}
use Rattle.run_model.specs.Runs.{RanScripts, Runs}
use Rattle.run_model.specs.Seats.{own}
use Rattle.run_model.specs.Seats as worked
use Rattle.run_model.specs.Benches.{AtSeats, broken_at, started_by}
use Rattle.run_model.specs.Ends.{is_faultless}
use Rattle.run_model.specs.InFlight.{IsValidAfter}

-- *Exact outputs*: for each target what a crash now leaves holds in its work folder exactly its clean output.
abbrev pub HasTargets : Gives → Plan → Store → Type 0
HasTargets gives plan image = (t : ℕ) (task : PlanTask) (built : Built) → Contains plan.targets t → slice_get plan.tasks t ≡ Some task → slice_get (clean_build gives plan.tasks) t ≡ Some built → HoldsClean image (work_folder task) built

-- every task of the plan has a clean output
abbrev pub AllClean : Gives → Plan → Type 0
AllClean gives plan = (t : ℕ) (built : Built) → slice_get (clean_build gives plan.tasks) t ≡ Some built → (tree : Entries) × (built.outcome ≡ Ok tree)

-- *Every crash leaves a valid store*: its book has the lines of the entry's, and behind them others (those that the run recorded, and some of
-- tasks that ran: `HasRun`); all of them can be read again.
pub record IsCrash (gives : Gives) (reading : Reading) (book : Book) (image : Store) : Type 0 where
  pub again : Book
  pub same : HaveSameLines book again
  pub lines : Book
  pub valid : IsValid gives reading image (again ++ lines)
  pub readable : AllByRecursion IsReadable (again ++ lines)

-- A crash while the store was opened left it valid with the opening's book, and all that opening leaves alone as it was at entry, so each stamp
-- and each work folder.
pub record IsLeftByOpening (opening : Opening) (held image : Store) : Type 0 where
  pub valid : IsValid opening.gives opening.reading image opening.book
  pub left : (q : List ℕ) → IsLeft held q → image q ≡ held q

-- A crash behind the opening left the store valid with the book after some first events of the tale, and with the lines of some tasks that ran
-- then, one for each worker at most; and no stamp of a task of the plan lies: its stamp and its work folder are as they were opened, or it has
-- no stamp, or what its stamp tells of is there.
pub record IsLeftByRun (opening : Opening) (plan : Plan) (tale : List Logged) (image : Store) : Type 0 where
  pub count : ℕ
  pub after : IsValidAfter opening plan (take count tale) image
  pub honest : (t : ℕ) (task : PlanTask) → slice_get plan.tasks t ≡ Some task → IsHonest opening.story.held image task

-- A tale that is legal over the store as it was opened, with the lines of the entry's book in its own order. Behind these the run recorded
-- the lines of what ended; a crash may have left besides lines of tasks that ran, but none at the end where the run met no fault. Each settled
-- task stands to the end, and since the moment of its event. What was found, restored and started was there so, or missing; what ended or broke
-- off was started; and where the run met no fault it leaves no litter.
pub record HasRun (gives : Gives) (reading : Reading) (book : Book) (held : Store) (plan : Plan) (options : Options) (tale : List Logged) (s : Status) (now : Story) : Type 0 where
  pub opening : Opening
  pub same_gives : opening.gives ≡ gives
  pub same_reading : opening.reading ≡ reading
  pub same_lines : HaveSameLines book opening.book
  pub opened : IsOpened held opening.story.held (rows_of opening.book)
  pub legal : IsLegalTale opening plan options tale
  pub there : WereThere opening plan options tale
  pub started : (t : ℕ) → HasFinished tale t ⊎ HasBroken tale t → HasStarted tale t
  pub recorded : is_faultless s ≡ true → EachNow now (λ image. IsValid gives reading image (book_after gives plan opening.book tale))
  pub swept : is_faultless s ≡ true → HasNoLitter now.held
  pub early : (image : Store) → IsImageSince opening.story 0 image → IsLeftByOpening opening held image
  pub images : (image : Store) → IsImageSince now 0 image → IsImageSince opening.story 0 image ⊎ IsLeftByRun opening plan tale image
  pub stands : EachNow now (AllStand opening plan tale)
  pub since : (k : ℕ) (entry : Logged) → slice_get tale k ≡ Some entry → entry.moment < 2 ^ 64 - 1 → (image : Store) → IsImageSince now entry.moment image → AllStand opening plan (take (k + 1) tale) image

-- ---- the bench runs

-- The bench of a seat ran what that seat started. Only the last of these tasks may have no run, where the last entry of the seat is that it
-- broke off.
abbrev pub RanStarted : Gives → Plan → List Logged → ℕ → Runs → Runs → Type 0
RanStarted gives plan tale seat before now = worked.RanStarted gives plan (own seat tale) before now

-- ---- what ran was printed

-- The bench ran just the scripts of these tasks. Only the last one may have no run, and only where it is the one that broke off.
pub record RanJust (plan : Plan) (broke : Option ℕ) (tasks : List ℕ) (before now : Runs) : Type 0 where
  pub runs : Runs
  pub ran : now ≡ before ++ runs
  pub these : RanScripts plan broke tasks runs

-- What ran had been printed: each bench ran the scripts of just those tasks that its seat starts in a front of the tale, and behind what was
-- written before the run the lines of that front stand whole. Only the last one of a seat may have no run, where the last entry of the seat
-- in the whole tale is that it broke off.
pub record RanPrinted (plan : Plan) (tale : List Logged) (before now : List Runs) (old new : List ℕ) : Type 0 where
  pub front : List Logged
  pub back : List Logged
  pub cut : tale ≡ front ++ back
  pub ran : AtSeats (λ seat. RanJust plan (broken_at seat tale) (started_by seat front)) before now
  pub rest : List ℕ
  pub written : new ≡ old ++ (tale_text plan.tasks front ++ rest)

-- ---- what a run leaves alone

-- All that is at or under a task's work folder, the objects of the book's lines that are of it, and its stamp, where opening the store
-- leaves that alone, are as they were.
pub record IsLeftAlone (book : Book) (held image : Store) (of : PlanTask) : Type 0 where
  pub work : (q : List ℕ) → IsAtOrBelow (work_folder of) q → image q ≡ held q
  pub objects : (line : Line) → HasLine book line → line.sig.pn ≡ of.id.pn → line.sig.task ≡ of.id.task → (q : List ℕ) → IsAtOrBelow (object_folder line.unihash) q → image q ≡ held q
  pub stamp : IsLeft held (stamp_path of) → image (stamp_path of) ≡ held (stamp_path of)

-- The tale breaks the task off, by a fault or for want of memory, and that is the last entry of its seat: there is one such task for each worker
-- at most.
pub record IsBrokenOff (tale : List Logged) (t : ℕ) : Type 0 where
  pub broken : HasBroken tale t
  pub seat : ℕ
  pub last : broken_at seat tale ≡ Some t

-- The task had an object to be restored from, by its signature over the lines of the book and those that the tale puts behind them: its output
-- wasn't in its work folder, and it had the object, unless something stood at `obj`, which opening takes away.
abbrev pub HadObject : Gives → Book → Store → Plan → Options → List Logged → ℕ → Type 0
HadObject gives book held plan options tale t = (sg : Signed) → slice_get (signatures (rows_of (book_after gives plan book tale)) plan.tasks) t ≡ Some sg →
    (IsInWork held (rows_of (book_after gives plan book tale)) sg → ⊥) × (held (codes "obj") ≡ None → IsInObject held (rows_of (book_after gives plan book tale)) options.setscene sg)

-- The run was halted while it published or restored the task: it met a fault, so its status isn't one of those that come without; and the tale
-- breaks the task off, or it is one of those that were being restored, and had an object.
pub record WasHalted (gives : Gives) (book : Book) (held : Store) (plan : Plan) (options : Options) (tale : List Logged) (s : Status) (restored : List ℕ) (t : ℕ) : Type 0 where
  pub faulty : is_faultless s ≡ false
  pub begun : IsBrokenOff tale t ⊎ (Contains restored t × HadObject gives book held plan options tale t)

-- The run may have touched the task: it ended in the tale, or the tale restores it, or it is one at which the run was halted.
abbrev pub MayTouch : Gives → Book → Store → Plan → Options → List Logged → Status → List ℕ → ℕ → Type 0
MayTouch gives book held plan options tale s restored t = IsPlaced tale t ⊎ WasHalted gives book held plan options tale s restored t

-- ... and that by publishing its output, since the tale starts it
abbrev pub MayPublish : Gives → Book → Store → Plan → Options → List Logged → Status → List ℕ → ℕ → Type 0
MayPublish gives book held plan options tale s restored t = MayTouch gives book held plan options tale s restored t × HasStarted tale t

-- Whatever a crash leaves since the run began, all else is left alone: each task of the plan that the run can't have touched, with the objects
-- of the book's lines of it; the object of each line of the book, unless a task of the line's PN and name was published with the line's unihash;
-- and, be it of a task of the plan or not, each path that opening the store leaves alone, that isn't under `tmp/`, that is neither the stamp nor
-- at or under the work folder of a task which the run may have touched, nor above that folder, unless nothing was held there, and, where the run
-- may have published one, not at or under `rec2`, `key` or `obj`, unless it is `obj` and nothing was held there. (What is under `rec2` there, `IsCrash`
-- says.) The lines of the book have some order. Of the tasks that were being restored there is one for each worker at most.
pub record LeavesOthers (gives : Gives) (book : Book) (held : Store) (plan : Plan) (options : Options) (tale : List Logged) (s : Status) (story : Story) : Type 0 where
  pub again : Book
  pub same : HaveSameLines book again
  pub restored : List ℕ
  pub few : length restored ≤ plan.threads
  pub others : (image : Store) → IsImageSince story 0 image → (t : ℕ) (task : PlanTask) → slice_get plan.tasks t ≡ Some task → (MayTouch gives again held plan options tale s restored t → ⊥) → IsLeftAlone book held image task
  pub objects : (image : Store) → IsImageSince story 0 image → (line : Line) → HasLine book line → IsObjectOfNone gives plan again tale (MayPublish gives again held plan options tale s restored) line → (q : List ℕ) → IsAtOrBelow (object_folder line.unihash) q → image q ≡ held q
  pub paths : (image : Store) → IsImageSince story 0 image → (q : List ℕ) → IsLeft held q → IsAside held plan (MayTouch gives again held plan options tale s restored) (MayPublish gives again held plan options tale s restored) q → image q ≡ held q

-- ---- failed tasks

-- the task of an event, if it is that the task failed
abbrev pub failed_by : Event → List ℕ → List ℕ
failed_by (events.Failed t why) more = t ∷ more
failed_by _ more = more

-- the tasks that failed in a tale, in its order
abbrev pub failed_in : List Logged → List ℕ
failed_in [] = []
failed_in (entry ∷ tale) = failed_by entry.event (failed_in tale)

abbrev pub FailsClean : Gives → Plan → ℕ → Type 0
FailsClean gives plan t = (built : Built) → slice_get (clean_build gives plan.tasks) t ≡ Some built → (cause : Rattle.meta_model.specs.declared.event.Why.Why) × (built.outcome ≡ Err (fails cause))

-- each task that fails by itself in the clean build failed in the tale
abbrev pub IsEachFailureTold : Gives → Plan → List Logged → Type 0
IsEachFailureTold gives plan tale = (t : ℕ) (built : Built) → slice_get (clean_build gives plan.tasks) t ≡ Some built → (cause : Rattle.meta_model.specs.declared.event.Why.Why) → built.outcome ≡ Err (fails cause) → Contains (failed_in tale) t

-- ---- kinds of statuses

-- whether the status is that an output differs from one run to another
abbrev pub is_unsteady : Status → Bool
is_unsteady (status.Unsteady pn task held given) = true
is_unsteady _ = false

-- ---- how a run may end

-- Each status has its cause: the disk's count is above 0, the bench's rose, the sink's rose, two signatures have one digest as their name,
-- two manifests of one record differ. Ok, TaskFailed and want of memory have none outside. No other status comes.
abbrev pub MayEndSo : ℕ → Type 0 → Type 0 → Status → Type 0
MayEndSo disk bench sink status.Ok = Unit {0}
MayEndSo disk bench sink status.TaskFailed = Unit {0}
MayEndSo disk bench sink status.DiskFault = 0 < disk
MayEndSo disk bench sink status.BenchFault = bench
MayEndSo disk bench sink status.WriteFault = sink
MayEndSo disk bench sink (status.Collision name held given) = (held ≢ given) × (sha256 held ≡ name.bytes) × (sha256 given ≡ name.bytes)
MayEndSo disk bench sink (status.Unsteady pn task held given) = held ≢ given
MayEndSo disk bench sink status.OutOfMemory = Unit {0}
MayEndSo disk bench sink _ = ⊥

-- What the status says of two that differ, over these rows: a collision of two signatures of one digest, that of a row and that of a task of
-- the plan; and an output that isn't steady of two manifests of a task of the plan.
abbrev pub DiffersOver : Plan → List EquivRow → Status → Type 0
DiffersOver plan rows (status.Collision name held given) = IsClashOf plan rows name held given
DiffersOver plan rows (status.Unsteady pn task held given) = IsUnsteadyOf plan rows pn task held given
DiffersOver plan rows _ = Unit {0}

-- *What is held differs from what was given*: the status says so over rows whose records are all held under `rec2/`, each by its name, whatever
-- a crash now leaves. So the one of the two is that of a stored record, and the other is of a task of the plan.
pub record TellsDifference (tells : Type 0) (plan : Plan) (story : Story) (s : Status) : Type 0 where
  pub rows : List EquivRow
  pub kept : tells → HoldsRecords story rows
  pub differs : DiffersOver plan rows s
