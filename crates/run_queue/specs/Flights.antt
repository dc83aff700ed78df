-- Publications that are open in a run, and their lines, which are in flight. (Own rules.)
use Rattle.std.specs.Prelude.{◌≡◌, ◌≢◌, ◌⊎◌, ◌≤◌, ◌<◌, ◌+◌, ◌-◌, ◌^◌, ℕ, Bool, List, [], ◌∷◌, ◌++◌, take, Option, Some, None, Ok, if◌then◌else◌}
use Rattle.std.specs.List.{AllByRecursion, slice_get}
use Rattle.std.specs.Option.{option_map}
use Rattle.std.specs.Str.{bytes_eq}
use Rattle.tree_model.specs.Tree.{IsTree}
use Rattle.outside_traits.specs.Store.{Store}
use Rattle.outside_traits.specs.Story.{IsImageSince, Story, moment}
use Rattle.meta_model.specs.CleanBuild.{Entries}
use Rattle.meta_model.specs.declared.event.Avail.{Avail}
use Rattle.meta_model.specs.declared.event.Logged.{Logged}
use Rattle.meta_model.specs.declared.plan.Plan.{Plan}
use Rattle.tale_model.specs.History.{EachAfter}
use Rattle.run_core.specs.History.{IsOrderly}
use Rattle.store_model.specs.Available.{task_folder}
use Rattle.store_model.specs.declared.signature.EquivRow.{EquivRow}
use Rattle.store_model.specs.Publication.{Publication}
use Rattle.store_model.specs.Origins.{Book, rows_of}
use Rattle.store_model.specs.Readable.{IsReadable}
use Rattle.store_model.specs.Recording.{NeedsHaveRows}
use Rattle.store_model.specs.Reuse.{MayReuse}
use Rattle.store_model.specs.Signatures.{Signed, signatures}
use Rattle.store_model.specs.Spelling.{name_of}
use Rattle.store_model.specs.Valid.{IsValid}
use Rattle.build_store.specs.Laws.{WritesNewKey}
use Rattle.build_store.specs.Openings.{open_view}
use Rattle.build_store.specs.Publication.{line_for, publication}
use Rattle.build_store.specs.View.{OpenView, OpenViews, opened_at}
use Rattle.run_model.specs.Books.{book_after, rows_after}
use Rattle.run_model.specs.CleanOutputs.{Has}
use Rattle.run_model.specs.Courses.{clean_says, said}
use Rattle.run_model.specs.InFlight.{RunsAfter, book_with}
use Rattle.run_model.specs.Opening.{Opening}
use Rattle.run_model.specs.Stands.{AllStand, HasEnded}
use Rattle.meta_model.specs.declared.plan.PlanTask.{PlanTask}
use Rattle.run_queue.specs.Opening.{MayRun}
use Rattle.run_queue.specs.Stands.{HasObjects, IsLeft}

-- ---- what is open

-- A publication that a store has open: the task with its signature, and what it gave.
pub record OpenTask : Type 0 where
  pub signed : Signed
  pub tree : Entries

-- what a store has open, by the folders of tasks
abbrev pub OpenTasks : Type 0
OpenTasks = List ℕ → Option OpenTask

-- as the store keeps it: with the bytes of the signature
abbrev pub view_of : OpenTask → OpenView
view_of one = open_view one.signed one.tree

-- what a store keeps of the publications that it has open is of these
abbrev pub SameOpen : OpenTasks → OpenViews → Type 0
SameOpen opened views = (folder : List ℕ) → option_map view_of (opened folder) ≡ opened_at views folder

-- nothing is open
abbrev pub nothing_open : OpenTasks
nothing_open folder = None

-- this publication of the task of a number is open
abbrev pub FliesAs : Plan → OpenTasks → ℕ → OpenTask → Type 0
FliesAs plan opened t one = (slice_get plan.tasks t ≡ Some one.signed.task) × (opened (task_folder one.signed.task) ≡ Some one)

-- some publication of the task of a number is open
abbrev pub Flies : Plan → OpenTasks → ℕ → Type 0
Flies plan opened t = (one : OpenTask) × FliesAs plan opened t one

-- Over a book a publication is one of a task of the plan: its signature is that by the rows, the tree is its clean output, and what the clean build
-- says, the names of the tasks that it needs have rows, and its line can be read again.
pub record IsFlight (o : Opening) (plan : Plan) (book : Book) (t : ℕ) (one : OpenTask) : Type 0 where
  pub at : slice_get plan.tasks t ≡ Some one.signed.task
  pub signed : slice_get (signatures (rows_of book) plan.tasks) t ≡ Some one.signed
  pub clean : Has o.gives plan.tasks t (Ok one.tree)
  pub says : clean_says o.gives plan.tasks t ≡ said (Ok one.tree)
  pub is_tree : IsTree one.tree
  pub needs : NeedsHaveRows (rows_of book) (signatures (rows_of book) plan.tasks) one.signed.task
  pub readable : IsReadable (line_for (rows_of book) one.signed one.tree)

-- An open publication is of a task that runs, at the task's folder.
pub record IsInHand (o : Opening) (plan : Plan) (tale : List Logged) (folder : List ℕ) (one : OpenTask) : Type 0 where
  pub number : ℕ
  pub seat : ℕ
  pub runs : RunsAfter plan tale number seat
  pub folder_is : folder ≡ task_folder one.signed.task
  pub flight : IsFlight o plan (book_after o.gives plan o.book tale) number one

-- So is each that is open, and no two have one name.
pub record AreFlights (o : Opening) (plan : Plan) (tale : List Logged) (opened : OpenTasks) : Type 0 where
  pub each : (folder : List ℕ) (one : OpenTask) → opened folder ≡ Some one → IsInHand o plan tale folder one
  pub apart : (folder beside : List ℕ) (one other : OpenTask) → opened folder ≡ Some one → opened beside ≡ Some other → folder ≢ beside → name_of one.signed.sig ≢ name_of other.signed.sig

-- At this folder nothing was open, and this publication is; the others are as they were.
pub record OpensAt (folder : List ℕ) (one : OpenTask) (opened later : OpenTasks) : Type 0 where
  pub none : opened folder ≡ None
  pub is_open : later folder ≡ Some one
  pub others : (beside : List ℕ) → beside ≢ folder → later beside ≡ opened beside

-- what is open, and this publication at this folder
abbrev pub with_open : List ℕ → OpenTask → OpenTasks → OpenTasks
with_open folder one opened beside = if bytes_eq beside folder then Some one else opened beside

-- what is open, but for the publication at this folder
abbrev pub without_open : List ℕ → OpenTasks → OpenTasks
without_open folder opened beside = if bytes_eq beside folder then None else opened beside

-- The publication at this folder is open no more, and the others are as they were.
pub record Closes (folder : List ℕ) (opened later : OpenTasks) : Type 0 where
  pub closed : later folder ≡ None
  pub others : (beside : List ℕ) → beside ≢ folder → later beside ≡ opened beside

-- ---- what is held

-- what a turn of an open publication puts: its key too, where that is written
abbrev pub put_of_turn : List EquivRow → OpenTask → Bool → Publication
put_of_turn rows one writes = record (publication rows one.signed one.tree) { writes_key = writes }

-- no number stands there twice
abbrev pub AreOnce : List ℕ → Type 0
AreOnce [] = Unit {0}
AreOnce (t ∷ ts) = AllByRecursion (λ u. t ≢ u) ts × AreOnce ts

-- What is held is valid with the book after the tale, and behind it the lines of some of those whose publications are open, in any choice.
pub record IsValidWith (o : Opening) (plan : Plan) (tale : List Logged) (opened : OpenTasks) (image : Store) : Type 0 where
  pub in_flight : List ℕ
  pub fly : AllByRecursion (Flies plan opened) in_flight
  pub once : AreOnce in_flight
  pub valid : IsValid o.gives o.reading image (book_with o plan tale in_flight)

-- ... and where the key of a publication is written in a turn, none of those lines, and none of the book, has a key of its name.
pub record MayTurn (o : Opening) (plan : Plan) (tale : List Logged) (opened : OpenTasks) (one : OpenTask) (writes : Bool) (image : Store) : Type 0 where
  pub with_lines : IsValidWith o plan tale opened image
  pub new_key : WritesNewKey (put_of_turn (rows_after o plan tale) one writes) (book_with o plan tale with_lines.in_flight)

-- the objects of tasks that haven't ended, and of which nothing is open, are as they were when the run began
abbrev pub KeepOtherObjects : Opening → Plan → List Logged → OpenTasks → Store → Type 0
KeepOtherObjects o plan tale opened image = (t : ℕ) (task : PlanTask) → slice_get plan.tasks t ≡ Some task → (HasEnded plan tale t → ⊥) → (Flies plan opened t → ⊥) → HasObjects (book_after o.gives plan o.book tale) o.story.held image task

-- each image since an early moment was left before the run began, or by the run
abbrev pub AreLeft : Opening → Plan → List (Option Avail) → List Logged → Story → Type 0
AreLeft o plan begun tale story = (from : ℕ) (image : Store) → from ≤ moment o.story → IsImageSince story from image → IsImageSince o.story from image ⊎ IsLeft o plan begun tale image

-- since the moment of each entry each task that was settled up to it stands, whatever a crash leaves
abbrev pub StandTo : Opening → Plan → List Logged → Story → Type 0
StandTo o plan tale story = (k : ℕ) (entry : Logged) → slice_get tale k ≡ Some entry → entry.moment < 2 ^ 64 - 1 → (image : Store) → IsImageSince story entry.moment image → AllStand o plan (take (k + 1) tale) image

-- ---- a run in which publications are open

-- While no fault is kept: the premises, a tale in order, the book that has grown from the opening's and may be reused, and what is open.
pub record IsUnderWay (o : Opening) (plan : Plan) (tale : List Logged) (opened : OpenTasks) : Type 0 where
  pub may : MayRun o plan
  pub orderly : EachAfter (IsOrderly plan.tasks) tale
  pub lines : Book
  pub grown : book_after o.gives plan o.book tale ≡ o.book ++ lines
  pub readable : AllByRecursion IsReadable (book_after o.gives plan o.book tale)
  pub reuse : MayReuse o.gives o.reading o.story.held (book_after o.gives plan o.book tale) plan.tasks
  pub flights : AreFlights o plan tale opened
