-- What follows for a run in which publications are open, and whose lines are in flight.
use Rattle.std.specs.Prelude.{◌≡◌, ◌≢◌, ◌⊎◌, ◌≤◌, ◌-◌, ◌^◌, ◌++◌, ◌∷◌, [], min, ℕ, Bool, false, IsSome, List, Contains, None, Option, Some, length}
use Rattle.std.specs.List.{AllByRecursion, slice_get}
use Rattle.outside_traits.specs.Passes.{EachNow, Passes}
use Rattle.outside_traits.specs.Store.{Store}
use Rattle.outside_traits.specs.Story.{IsSound, Story, moment}
use Rattle.meta_model.specs.declared.event.Avail.{Avail}
use Rattle.meta_model.specs.declared.event.Avail.TheVariants.{Missing, Object}
use Rattle.meta_model.specs.declared.event.Event.TheVariants as events
use Rattle.meta_model.specs.declared.event.Logged.{Logged}
use Rattle.meta_model.specs.declared.plan.Plan.{Plan}
use Rattle.run_core.specs.History.{IsOrderly}
use Rattle.tale_model.specs.Fates.{NoneRuns, fate_at, fates_told, is_settled, task_of}
use Rattle.tale_model.specs.History.{EachAfter}
use Rattle.store_model.specs.Premises.{HasNoCollision}
use Rattle.store_model.specs.declared.signature.EquivRow.{EquivRow}
use Rattle.store_model.specs.Available.{IsAvailable, task_folder}
use Rattle.store_model.specs.Origins.{Book, Line, rows_of}
use Rattle.store_model.specs.Readable.{IsReadable}
use Rattle.store_model.specs.Recording.{NeedsHaveRows}
use Rattle.store_model.specs.Reuse.{MayReuse}
use Rattle.store_model.specs.Rows.{row_at}
use Rattle.store_model.specs.Signatures.{Signed, signatures}
use Rattle.store_model.specs.Spelling.{name_of, signature_bytes}
use Rattle.store_model.specs.Valid.{IsValid, IsValidBook, IsValidLine}
use Rattle.build_store.specs.Pieces.{IsPublishing}
use Rattle.build_store.specs.View.{NothingOpen, OpenViews}
use Rattle.build_store.specs.Publication.{IsPublished, KeepsOthers, Publishes, Restores, publication, rows_with}
use Rattle.run_model.specs.Books.{book_after, book_by, line_of_ended, rows_after}
use Rattle.run_model.specs.Build.{IsLeftByRun}
use Rattle.run_model.specs.InFlight.{RunsAfter, book_with, lines_in_flight}
use Rattle.run_model.specs.Opening.{Opening}
use Rattle.run_model.specs.Stands.{AllStand, HasBroken, IsPlaced}
use Rattle.run_queue.specs.Flights.{AreFlights, AreLeft, AreOnce, Closes, Flies, FliesAs, IsFlight, IsInHand, IsUnderWay, IsValidWith, KeepOtherObjects, MayTurn, OpenTask, OpenTasks, OpensAt, SameOpen, StandTo, nothing_open, put_of_turn, with_open, without_open}
use Rattle.run_queue.specs.Joined.{IsOther}
use Rattle.run_queue.specs.Keeps.{IsToldOf, WasThere}
use Rattle.run_queue.specs.Mends.{both}
use Rattle.run_queue.specs.Opening.{MayRun}
use Rattle.run_queue.specs.Seen.{IsBegunIn, Seen}
use Rattle.run_queue.specs.Stands.{IsLeft, IsReadAfter}

-- ---- lines in flight

-- Each line in flight is valid behind the book of what ended, and any choice of them makes a valid book behind it.
abbrev pub ChoiceIsValid : Type 0
ChoiceIsValid = (o : Opening) (plan : Plan) (tale : List Logged) (opened : OpenTasks) → IsUnderWay o plan tale opened → (ts : List ℕ) → AllByRecursion (Flies plan opened) ts → AreOnce ts →
    AllByRecursion (IsValidLine o.gives o.reading (book_after o.gives plan o.book tale)) (lines_in_flight o.gives plan (book_after o.gives plan o.book tale) ts)
    × IsValidBook o.gives o.reading (book_with o plan tale ts)

-- What is valid with some lines in flight is what a run promises of a crash: lines of tasks that run, one for each worker at most, each valid alone.
abbrev pub WithIsRead : Type 0
WithIsRead = (o : Opening) (plan : Plan) (tale : List Logged) (opened : OpenTasks) → IsUnderWay o plan tale opened → (image : Store) → IsValidWith o plan tale opened image → IsReadAfter o plan tale image

-- What a crash left of a run is so as it is promised.
abbrev pub LeftIsPromised : Type 0
LeftIsPromised = (o : Opening) (plan : Plan) (begun : List (Option Avail)) (tale : List Logged) (image : Store) → IsLeft o plan begun tale image → IsLeftByRun o plan tale image

-- While lines of other tasks and names come behind the book a publication stays one, puts the same, and has the same line.
abbrev pub FlightStays : Type 0
FlightStays = (o : Opening) (plan : Plan) (book more : Book) → MayReuse o.gives o.reading o.story.held book plan.tasks → (t : ℕ) (one : OpenTask) → IsFlight o plan book t one → AllByRecursion (IsOther one.signed.sig) more →
    IsFlight o plan (book ++ more) t one
    × (publication (rows_of (book ++ more)) one.signed one.tree ≡ publication (rows_of book) one.signed one.tree)
    × (line_of_ended o.gives plan (book ++ more) t ≡ line_of_ended o.gives plan book t)

-- ---- a run begins, a publication is opened, an event is marked, the run is at its end

-- A run begins with nothing open, where no line of the book has the name of a task of the plan and another signature.
abbrev pub BeginsUnderWay : Type 0
BeginsUnderWay = (o : Opening) (plan : Plan) → MayRun o plan → HasNoCollision o.book (rows_of o.book) plan.tasks → IsUnderWay o plan [] nothing_open × EachNow o.story (IsValidWith o plan [] nothing_open)

-- At its end, where no task runs, no publication is open, and where no restoring is either, nothing is in the store's books: what is valid with some lines in
-- flight is so with the book of what ended.
abbrev pub EndsWithNothing : Type 0
EndsWithNothing = (o : Opening) (plan : Plan) (tale : List Logged) (opened : OpenTasks) → AreFlights o plan tale opened → NoneRuns (fates_told (length plan.tasks) tale) →
    ((image : Store) → IsValidWith o plan tale opened image → IsValid o.gives o.reading image (book_after o.gives plan o.book tale))
    × ((mends : OpenTasks) (views : OpenViews) → ((folder : List ℕ) → mends folder ≡ None) → SameOpen (both opened mends) views → NothingOpen views)

-- One more may be opened, of a task that runs, by its signature over the rows and with its clean output, where none that is open has its name. What
-- was valid with some lines in flight is so still.
abbrev pub OpeningKeepsFlights : Type 0
OpeningKeepsFlights = (o : Opening) (plan : Plan) (tale : List Logged) (opened later : OpenTasks) → AreFlights o plan tale opened → (one : OpenTask) → OpensAt (task_folder one.signed.task) one opened later → IsInHand o plan tale (task_folder one.signed.task) one →
    ((beside : List ℕ) (other : OpenTask) → opened beside ≡ Some other → name_of one.signed.sig ≢ name_of other.signed.sig) →
    AreFlights o plan tale later × ((image : Store) → IsValidWith o plan tale opened image → IsValidWith o plan tale later image)

-- So is what was said of other objects.
abbrev pub OpeningKeepsOthers : Type 0
OpeningKeepsOthers = (o : Opening) (plan : Plan) (tale : List Logged) (opened later : OpenTasks) (folder : List ℕ) (one : OpenTask) → OpensAt folder one opened later → (image : Store) →
    KeepOtherObjects o plan tale opened image → KeepOtherObjects o plan tale later image

-- As plain values: one more at a folder, and one less.
abbrev pub OneMoreOrLess : Type 0
OneMoreOrLess = (folder : List ℕ) (one : OpenTask) (opened : OpenTasks) → (opened folder ≡ None → OpensAt folder one opened (with_open folder one opened)) × Closes folder opened (without_open folder opened)

-- An event that records nothing, of a task of which nothing is open, leaves them as they are.
abbrev pub MarksKeepFlights : Type 0
MarksKeepFlights = (o : Opening) (plan : Plan) (tale : List Logged) (opened : OpenTasks) (entry : Logged) → ((book : Book) → book_by o.gives plan book entry.event ≡ book) → ((t seat : ℕ) → Flies plan opened t → RunsAfter plan tale t seat → t ≢ task_of entry.event) → AreFlights o plan tale opened →
    AreFlights o plan (tale ++ entry ∷ []) opened × ((image : Store) → IsValidWith o plan tale opened image → IsValidWith o plan (tale ++ entry ∷ []) opened image)

-- ---- a turn

-- What is valid with some lines in flight stays so through a turn of a publication that is open.
abbrev pub TurnKeepsValid : Type 0
TurnKeepsValid = (o : Opening) (plan : Plan) (tale : List Logged) (opened : OpenTasks) → IsUnderWay o plan tale opened → (t : ℕ) (one : OpenTask) → FliesAs plan opened t one → (writes : Bool) →
    (old new : Store) → MayTurn o plan tale opened one writes old → Publishes (put_of_turn (rows_after o plan tale) one writes) old new → IsValidWith o plan tale opened new

-- So whatever a crash leaves by then is left by the run, in which the task is begun.
abbrev pub TurnLeaves : Type 0
TurnLeaves = (o : Opening) (plan : Plan) (tale : List Logged) (opened : OpenTasks) → IsUnderWay o plan tale opened → (t : ℕ) (one : OpenTask) → FliesAs plan opened t one → (writes : Bool) →
    (begun : List (Option Avail)) → IsBegunIn begun t → (a b : Story) → IsSound a → moment o.story ≤ moment a → Passes a b (IsPublishing (put_of_turn (rows_after o plan tale) one writes) a.held) →
    EachNow a (MayTurn o plan tale opened one writes) → AreLeft o plan begun tale a → AreLeft o plan begun tale b

-- Settled tasks stand through it, now and since each event; so do the objects of tasks of which nothing is open.
abbrev pub TurnKeepsStanding : Type 0
TurnKeepsStanding = (o : Opening) (plan : Plan) (tale : List Logged) (opened : OpenTasks) → IsUnderWay o plan tale opened → (t : ℕ) (one : OpenTask) → FliesAs plan opened t one → (writes : Bool) →
    (a b : Story) → IsSound a → ((k : ℕ) (entry : Logged) → slice_get tale k ≡ Some entry → entry.moment ≤ moment a) → Passes a b (IsPublishing (put_of_turn (rows_after o plan tale) one writes) a.held) →
    (EachNow a (AllStand o plan tale) → EachNow b (AllStand o plan tale))
    × (StandTo o plan tale a → StandTo o plan tale b)
    × (EachNow a (KeepOtherObjects o plan tale opened) → EachNow b (KeepOtherObjects o plan tale opened))

-- ---- the last turn

-- Behind it the task has ended, and its publication is open no more: the book has grown by its line, and its name has a row.
abbrev pub LandingGrows : Type 0
LandingGrows = (o : Opening) (plan : Plan) (tale : List Logged) (opened : OpenTasks) → IsUnderWay o plan tale opened → (t : ℕ) (one : OpenTask) → FliesAs plan opened t one →
    (later : OpenTasks) → Closes (task_folder one.signed.task) opened later → (entry : Logged) → entry.event ≡ events.Ended t →
    (rows_with (rows_after o plan tale) one.signed one.tree ≡ rows_after o plan (tale ++ entry ∷ [])) × (row_at (rows_after o plan (tale ++ entry ∷ [])) (name_of one.signed.sig) ≢ None)

-- The others are open as they were.
abbrev pub LandingKeepsFlights : Type 0
LandingKeepsFlights = (o : Opening) (plan : Plan) (tale : List Logged) (opened : OpenTasks) → IsUnderWay o plan tale opened → (t : ℕ) (one : OpenTask) → FliesAs plan opened t one →
    (later : OpenTasks) → Closes (task_folder one.signed.task) opened later → (entry : Logged) → entry.event ≡ events.Ended t → AreFlights o plan (tale ++ entry ∷ []) later

-- An image in which all is there that the stamp tells of is valid with the longer book, and with some lines of the others: the task's own has moved from
-- these into the book. The task stands in it, with all that stood; and the objects of tasks that are neither ended nor open are as they were.
abbrev pub LandingStands : Type 0
LandingStands = (o : Opening) (plan : Plan) (tale : List Logged) (opened : OpenTasks) → IsUnderWay o plan tale opened → (t : ℕ) (one : OpenTask) → FliesAs plan opened t one →
    (later : OpenTasks) → Closes (task_folder one.signed.task) opened later → (entry : Logged) → entry.event ≡ events.Ended t → (image : Store) → IsPublished (publication (rows_after o plan tale) one.signed one.tree) image →
    (IsValidWith o plan tale opened image → IsValidWith o plan (tale ++ entry ∷ []) later image)
    × (AllStand o plan tale image → AllStand o plan (tale ++ entry ∷ []) image)
    × (KeepOtherObjects o plan tale opened image → KeepOtherObjects o plan (tale ++ entry ∷ []) later image)

-- Each settled task stands since its event, the task itself too, whose event is marked now.
abbrev pub LandingStandsTo : Type 0
LandingStandsTo = (o : Opening) (plan : Plan) (tale : List Logged) (entry : Logged) (b : Story) → entry.moment ≡ min (moment b) (2 ^ 64 - 1) → StandTo o plan tale b → EachNow b (AllStand o plan (tale ++ entry ∷ [])) → StandTo o plan (tale ++ entry ∷ []) b

-- So the run goes on, where no line has the name of a task of the plan and another signature.
abbrev pub LandingGoesOn : Type 0
LandingGoesOn = (o : Opening) (plan : Plan) (tale : List Logged) (opened : OpenTasks) → IsUnderWay o plan tale opened → (t : ℕ) (one : OpenTask) → FliesAs plan opened t one →
    (later : OpenTasks) → Closes (task_folder one.signed.task) opened later → (entry : Logged) → entry.event ≡ events.Ended t → EachAfter (IsOrderly plan.tasks) (tale ++ entry ∷ []) →
    HasNoCollision (book_after o.gives plan o.book (tale ++ entry ∷ [])) (rows_after o plan (tale ++ entry ∷ [])) plan.tasks → IsUnderWay o plan (tale ++ entry ∷ []) later

-- ---- meanwhile

-- A turn of a restoring leaves each image valid with the lines in flight. (What only looks leaves all as it is; another publication's turn is a turn as
-- above.)
abbrev pub RestoringKeepsValid : Type 0
RestoringKeepsValid = (o : Opening) (plan : Plan) (tale : List Logged) (opened : OpenTasks) (held : Store) (rows : List EquivRow) (s : Signed) (a b : Story) → Passes a b (Restores held rows s) →
    EachNow a (IsValidWith o plan tale opened) → EachNow b (IsValidWith o plan tale opened)

-- And so it leaves the run, in which its task is begun and isn't settled: whatever a crash leaves is left by it, settled tasks stand now and since
-- each event, and the objects of tasks of which nothing is open are as they were.
abbrev pub RestoringLeaves : Type 0
RestoringLeaves = (o : Opening) (plan : Plan) (tale : List Logged) (opened : OpenTasks) → IsUnderWay o plan tale opened → (t : ℕ) (s : Signed) → slice_get plan.tasks t ≡ Some s.task → slice_get (signatures (rows_after o plan tale) plan.tasks) t ≡ Some s →
    is_settled (fate_at (fates_told (length plan.tasks) tale) t) ≡ false → (begun : List (Option Avail)) → IsBegunIn begun t → (a b : Story) → IsSound a → moment o.story ≤ moment a → ((k : ℕ) (entry : Logged) → slice_get tale k ≡ Some entry → entry.moment ≤ moment a) →
    Passes a b (Restores a.held (rows_after o plan tale) s) → Passes a b (KeepsOthers (task_folder s.task) None a.held) →
    (EachNow a (IsValidWith o plan tale opened) → AreLeft o plan begun tale a → AreLeft o plan begun tale b)
    × (EachNow a (AllStand o plan tale) → EachNow b (AllStand o plan tale))
    × (StandTo o plan tale a → StandTo o plan tale b)
    × (EachNow a (KeepOtherObjects o plan tale opened) → EachNow b (KeepOtherObjects o plan tale opened))

-- A task that was missing over rows is so while rows come whose signatures have other bytes.
abbrev pub MissingStays : Type 0
MissingStays = (held : Store) (rows more : List EquivRow) (setscene : Bool) (s : Signed) → AllByRecursion (λ (row : EquivRow). row.sig ≢ signature_bytes s.sig) more → IsAvailable held rows setscene s Missing → IsAvailable held (rows ++ more) setscene s Missing

-- The lines of other tasks have other bytes.
abbrev pub OtherBytes : Type 0
OtherBytes = (o : Opening) (plan : Plan) (book : Book) → MayRun o plan → IsValidBook o.gives o.reading book → (t : ℕ) (s : Signed) → slice_get (signatures (rows_of book) plan.tasks) t ≡ Some s →
    (line : Line) → IsReadable line → (line.sig.pn ≡ s.sig.pn → line.sig.task ≡ s.sig.task → ⊥) → signature_bytes line.sig ≢ signature_bytes s.sig

-- So a task whose needed tasks have rows, as those of a running one have, stays missing while lines of others come behind the book.
abbrev pub StartedStaysMissing : Type 0
StartedStaysMissing = (o : Opening) (plan : Plan) (book more : Book) → MayReuse o.gives o.reading o.story.held book plan.tasks → (setscene : Bool) (t : ℕ) (s later : Signed) →
    slice_get (signatures (rows_of book) plan.tasks) t ≡ Some s → slice_get (signatures (rows_of (book ++ more)) plan.tasks) t ≡ Some later → NeedsHaveRows (rows_of book) (signatures (rows_of book) plan.tasks) s.task →
    AllByRecursion (λ (line : Line). signature_bytes line.sig ≢ signature_bytes s.sig) more → IsAvailable o.story.held (rows_of book) setscene s Missing → IsAvailable o.story.held (rows_of (book ++ more)) setscene later Missing

-- ---- what is told

-- Behind one more entry a task is told of still that was: where it ran and the entry is its own, it was placed by it, or broken off by a fault.
abbrev pub ToldGoesOn : Type 0
ToldGoesOn = (o : Opening) (s later : Seen) (t : ℕ) (entry : Logged) → later.plan ≡ s.plan → later.tale ≡ s.tale ++ entry ∷ [] → (IsSome s.fault → IsSome later.fault) → (Contains s.restoring t → WasThere o s t Object → Contains later.restoring t × WasThere o later t Object) →
    ((seat : ℕ) → t ≡ task_of entry.event → RunsAfter s.plan s.tale t seat → IsPlaced later.tale t ⊎ (IsSome later.fault × HasBroken later.tale t)) →
    IsToldOf o s t → IsToldOf o later t

-- At the end, where no task runs, and none is being restored or a fault is kept, each that was begun was placed, or the run met a fault at it.
abbrev pub ToldAtEnd : Type 0
ToldAtEnd = (o : Opening) (s : Seen) (t : ℕ) → NoneRuns (fates_told (length s.plan.tasks) s.tale) → (s.restoring ≡ []) ⊎ IsSome s.fault → IsToldOf o s t →
    IsPlaced s.tale t ⊎ (IsSome s.fault × (HasBroken s.tale t ⊎ (Contains s.restoring t × WasThere o s t Object)))
