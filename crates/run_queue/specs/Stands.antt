-- What stands of a run, and what a crash leaves of it.
use Rattle.std.specs.Prelude.{◌≡◌, ◌≢◌, ◌⊎◌, ◌<◌, ◌-◌, ◌^◌, ◌+◌, ℕ, List, codes, take, Option, Some, None}
use Rattle.std.specs.List.{AllByRecursion, slice_get}
use Rattle.tree_model.specs.Path.{IsAtOrBelow, inside}
use Rattle.outside_traits.specs.Store.{Store}
use Rattle.outside_traits.specs.Story.{IsImageSince}
use Rattle.meta_model.specs.declared.event.Avail.{Avail}
use Rattle.meta_model.specs.declared.event.Logged.{Logged}
use Rattle.meta_model.specs.declared.plan.Plan.{Plan}
use Rattle.meta_model.specs.declared.plan.PlanTask.{PlanTask}
use Rattle.store_model.specs.Available.{object_folder, stamp_path, work_folder}
use Rattle.store_model.specs.Origins.{Book, Line}
use Rattle.store_model.specs.Lines.{HasLine}
use Rattle.store_model.specs.Readable.{IsReadable}
use Rattle.outside_traits.specs.Store.{slashes}
use Rattle.store_model.specs.Publication.{stamp_at}
use Rattle.run_model.specs.Opening.{Opening}
use Rattle.run_model.specs.InFlight.{IsValidAfter, book_with}
use Rattle.run_model.specs.Own.{IsAside, IsObjectOfNone}
use Rattle.run_model.specs.Stands.{IsHonest, HasStarted, AllStand}
use Rattle.run_queue.specs.Seen.{IsBegunIn, Seen}

-- a task's stamp, all that is at or under its work folder, and the objects of the lines that were recorded of it, are as when the run
-- began
pub record IsAsBegun (book : Book) (held image : Store) (of : PlanTask) : Type 0 where
  pub stamp : image (stamp_path of) ≡ held (stamp_path of)
  pub work : (q : List ℕ) → IsAtOrBelow (work_folder of) q → image q ≡ held q
  pub objects : (line : Line) → HasLine book line → line.sig.pn ≡ of.id.pn → line.sig.task ≡ of.id.task → (q : List ℕ) → IsAtOrBelow (object_folder line.unihash) q → image q ≡ held q

-- the task's publishing was begun: it is begun, and the tale starts it
abbrev pub IsPublishing : List (Option Avail) → List Logged → ℕ → Type 0
IsPublishing begun tale t = IsBegunIn begun t × HasStarted tale t

-- Nothing stands in the way of folders where nothing did: where nothing was held at `work`, right below it, at `obj`, at `stamp`, or under that where
-- no stamp of a task stands, nothing is.
pub record KeepsFolders (held image : Store) : Type 0 where
  pub work : held (codes "work") ≡ None → image (codes "work") ≡ None
  pub objects : held (codes "obj") ≡ None → image (codes "obj") ≡ None
  pub parts : (part : List ℕ) → slashes part ≡ 0 → held (inside (codes "work") part) ≡ None → image (inside (codes "work") part) ≡ None
  pub top : held (codes "stamp") ≡ None → image (codes "stamp") ≡ None
  pub stamps : (path : List ℕ) → slashes path ≢ 1 → held (stamp_at path) ≡ None → image (stamp_at path) ≡ None

-- The path is none that is in the way of stamps: at `stamp` itself nothing was held, and under it the path is of two parts, or nothing was held there.
pub record IsClearOfStamps (held : Store) (q : List ℕ) : Type 0 where
  pub top : q ≡ codes "stamp" → held q ≡ None
  pub under : (path : List ℕ) → q ≡ stamp_at path → (slashes path ≡ 1) ⊎ (held q ≡ None)

-- What is held is valid with the book after these events, and the lines of some tasks that run then; all these lines can be read again.
pub record IsReadAfter (o : Opening) (plan : Plan) (told : List Logged) (image : Store) : Type 0 where
  pub after : IsValidAfter o plan told image
  pub readable : AllByRecursion IsReadable (book_with o plan told after.in_flight)

-- What holds of each store that a crash left since the run began, by what was begun, and by the tale: it is valid with the book after some first
-- events and the lines of some tasks that ran then, and no stamp of a task of the plan lies; of a task that wasn't begun nothing changed, nor at
-- a path that is no own one of tasks that were begun, and none in the way of stamps, nor in the object of a line that none put; and nothing stands in
-- the way of folders where nothing did.
pub record IsLeft (o : Opening) (plan : Plan) (begun : List (Option Avail)) (tale : List Logged) (image : Store) : Type 0 where
  pub count : ℕ
  pub after : IsReadAfter o plan (take count tale) image
  pub honest : (t : ℕ) (task : PlanTask) → slice_get plan.tasks t ≡ Some task → IsHonest o.story.held image task
  pub others : (t : ℕ) (task : PlanTask) → slice_get plan.tasks t ≡ Some task → (IsBegunIn begun t → ⊥) → IsAsBegun o.book o.story.held image task
  pub paths : (q : List ℕ) → IsAside o.story.held plan (IsBegunIn begun) (IsPublishing begun tale) q → IsClearOfStamps o.story.held q → image q ≡ o.story.held q
  pub objects : (line : Line) → HasLine o.book line → IsObjectOfNone o.gives plan o.book tale (IsPublishing begun tale) line → (q : List ℕ) → IsAtOrBelow (object_folder line.unihash) q → image q ≡ o.story.held q
  pub folders : KeepsFolders o.story.held image

-- the objects of the lines of a book that are of the task are as when the run began
abbrev pub HasObjects : Book → Store → Store → PlanTask → Type 0
HasObjects book held image of = (line : Line) → HasLine book line → line.sig.pn ≡ of.id.pn → line.sig.task ≡ of.id.task → (q : List ℕ) → IsAtOrBelow (object_folder line.unihash) q → image q ≡ held q

-- Since the moment of each entry each task that was settled up to it stands, whatever a crash leaves.
abbrev pub StandSince : Opening → Seen → Type 0
StandSince o s = (k : ℕ) (entry : Logged) → slice_get s.tale k ≡ Some entry → entry.moment < 2 ^ 64 - 1 → (image : Store) → IsImageSince s.story entry.moment image → AllStand o s.plan (take (k + 1) s.tale) image
