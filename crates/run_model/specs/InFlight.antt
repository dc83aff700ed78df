-- Tasks in flight: tasks that run, of which a crash may have left the records, though none of them has ended.
use Rattle.std.specs.Prelude.{◌≡◌, ℕ, List, [], ◌∷◌, ◌++◌, Some, length}
use Rattle.std.specs.List.{slice_get, AllByRecursion}
use Rattle.outside_traits.specs.Store.{Store}
use Rattle.meta_model.specs.declared.event.Logged.{Logged}
use Rattle.meta_model.specs.declared.plan.Plan.{Plan}
use Rattle.meta_model.specs.CleanBuild.{Gives}
use Rattle.store_model.specs.Origins.{Book}
use Rattle.store_model.specs.Valid.{IsValid, IsValidLine}
use Rattle.tale_model.specs.declared.fate.Fate.TheVariants.{Running}
use Rattle.tale_model.specs.Fates.{fate_at, fates_told}
use Rattle.run_model.specs.Books.{book_after, line_of_ended}
use Rattle.run_model.specs.Opening.{Opening}

-- the task runs after these events, under this seat
abbrev pub RunsAfter : Plan → List Logged → ℕ → ℕ → Type 0
RunsAfter plan told t seat = fate_at (fates_told (length plan.tasks) told) t ≡ Running seat

-- Each of these tasks runs after these events, and no two places of the list are of one seat: there is one task for each worker at most.
pub record AreInFlight (plan : Plan) (told : List Logged) (ts : List ℕ) : Type 0 where
  pub runs : (k t : ℕ) → slice_get ts k ≡ Some t → (seat : ℕ) × RunsAfter plan told t seat
  pub apart : (j k t u seat : ℕ) → slice_get ts j ≡ Some t → slice_get ts k ≡ Some u → RunsAfter plan told t seat → RunsAfter plan told u seat → j ≡ k

-- the lines that these tasks put behind a book, each over the rows of the book alone
abbrev pub lines_in_flight : Gives → Plan → Book → List ℕ → Book
lines_in_flight gives plan book [] = []
lines_in_flight gives plan book (t ∷ ts) = line_of_ended gives plan book t ++ lines_in_flight gives plan book ts

-- the book after these events, and behind it the lines of these tasks
abbrev pub book_with : Opening → Plan → List Logged → List ℕ → Book
book_with o plan told ts = book_after o.gives plan o.book told ++ lines_in_flight o.gives plan (book_after o.gives plan o.book told) ts

-- What is held is valid with the book after these events, and the lines of some tasks that run then: those whose records had come into place.
-- Each of these lines is valid behind the book alone, whichever of the others are there.
pub record IsValidAfter (o : Opening) (plan : Plan) (told : List Logged) (image : Store) : Type 0 where
  pub in_flight : List ℕ
  pub flies : AreInFlight plan told in_flight
  pub valid : IsValid o.gives o.reading image (book_with o plan told in_flight)
  pub alone : AllByRecursion (IsValidLine o.gives o.reading (book_after o.gives plan o.book told)) (lines_in_flight o.gives plan (book_after o.gives plan o.book told) in_flight)
