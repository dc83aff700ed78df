-- What a clearing leaves of a valid store, at each moment and behind it.
use Rattle.std.specs.Prelude.{◌≡◌, ◌⊎◌, ℕ, Bool, List, Option, Some, IfSome}
use Rattle.std.specs.List.{AllByRecursion, slice_get}
use Rattle.tree_model.specs.declared.hash.Hash.{Hash}
use Rattle.outside_traits.specs.Passes.{EachNow, Passes}
use Rattle.outside_traits.specs.Store.{Store}
use Rattle.outside_traits.specs.Story.{IsImageSince, Story, moment}
use Rattle.meta_model.specs.CleanBuild.{Gives}
use Rattle.meta_model.specs.declared.event.Avail.TheVariants as avail
use Rattle.meta_model.specs.declared.plan.Plan.{Plan}
use Rattle.meta_model.specs.declared.plan.PlanTask.{PlanTask}
use Rattle.store_model.specs.declared.signature.EquivRow.{EquivRow}
use Rattle.store_model.specs.Available.{IsAvailable, IsInObject}
use Rattle.store_model.specs.Lines.{HaveSameLines, HasLine}
use Rattle.store_model.specs.Origins.{Book, Line, Reading, rows_of}
use Rattle.store_model.specs.Readable.{IsReadable}
use Rattle.store_model.specs.Reuse.{MayReuse}
use Rattle.store_model.specs.Signatures.{Signed, signatures}
use Rattle.store_model.specs.Valid.{IsValid, StandsIn}
use Rattle.store_opening.specs.Paths.{HasPlace}
use Rattle.run_model.specs.Headline.{MayBegin}
use Rattle.run_model.specs.Opening.{MayTake}
use Rattle.book_change.specs.Going.{kept_of}
use Rattle.store_clean.specs.declared.clearing.Cleaned.{Cleaned}
use Rattle.store_clean.specs.Deciding.{keeps}
use Rattle.plan_clean.specs.Along.{IsAlong, IsClearedBy}

-- A task has the signature that it had. Where it was available by its work folder it is, and where it was by its object alone, that is there.
pub record IsTaskKept (held image : Store) (book part : Book) (tasks : List PlanTask) (setscene : Bool) (n : ℕ) (s : Signed) : Type 0 where
  pub signed : slice_get (signatures (rows_of part) tasks) n ≡ Some s
  pub work : IsAvailable held (rows_of book) setscene s avail.Work → IsAvailable image (rows_of part) setscene s avail.Work
  pub object : IsAvailable held (rows_of book) setscene s avail.Object → IsInObject image (rows_of part) setscene s

-- so is each task of the plan that has a place in a store, as each task of a sound plan has
abbrev pub AreTasksKept : Store → Store → Book → Book → Plan → Type 0
AreTasksKept held image book part plan =
    (setscene : Bool) (n : ℕ) (s : Signed) → slice_get (signatures (rows_of book) plan.tasks) n ≡ Some s → HasPlace s.task → IsTaskKept held image book part plan.tasks setscene n s

-- What is left of a store with a book: it is valid with some lines of it, which are readable; a run of any plan that may take of these may begin; and of the
-- roots' plan, if there is one, each task is kept.
pub record IsLeftPart (gives : Gives) (reading : Reading) (book : Book) (plan : Option Plan) (held image : Store) : Type 0 where
  pub part : Book
  pub among : (before : Book) (line : Line) → StandsIn part before line → HasLine book line
  pub valid : IsValid gives reading image part
  pub readable : AllByRecursion IsReadable part
  pub begins : (other : Plan) → MayTake gives reading image part other.tasks → MayBegin gives reading part image other
  pub tasks : IfSome plan (AreTasksKept held image book part)

-- what a crash since the story stood so may have left, or what is held now
abbrev pub StandsSince : Story → Story → Store → Type 0
StandsSince old new image = IsImageSince new (moment old) image ⊎ (image ≡ new.held)

-- *At each moment since a clearing began*, where all that was held was durable: a valid store with readable lines is one with some of them, and has what the
-- roots' plan had.
abbrev pub ClearingLeaves : Type 0
ClearingLeaves = (plan : Option Plan) (limit : ℕ) (old new : Story) → EachNow old (λ image. image ≡ old.held) → Passes old new (IsAlong plan limit old.held) →
    (gives : Gives) (reading : Reading) (book : Book) → IsValid gives reading old.held book → AllByRecursion IsReadable book →
    (image : Store) → StandsSince old new image → IsLeftPart gives reading book plan old.held image

-- The store is valid with just the kept lines of the book as it was opened, in their order; and a run of any plan that might reuse the book may begin.
pub record IsServing (gives : Gives) (reading : Reading) (book : Book) (held now : Store) (rows : List EquivRow) (keep : Hash → Bool) : Type 0 where
  pub again : Book
  pub same : HaveSameLines book again
  pub rows_are : rows ≡ rows_of again
  pub valid : IsValid gives reading now (kept_of keep again)
  pub readable : AllByRecursion IsReadable (kept_of keep again)
  pub begins : (plan : Plan) → MayReuse gives reading held book plan.tasks → MayBegin gives reading (kept_of keep again) now plan

-- *Behind a clearing that was done.*
abbrev pub ClearedServes : Type 0
ClearedServes = (plan : Option Plan) (limit : ℕ) (held : Store) (after : Story) (cleaned : Cleaned) → (c : IsClearedBy plan limit held after cleaned) →
    (gives : Gives) (reading : Reading) (book : Book) → IsValid gives reading held book → AllByRecursion IsReadable book → IsServing gives reading book held after.held c.rows (keeps c.rows c.done.marks)
