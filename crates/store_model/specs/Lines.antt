-- Lines of a book, and stores in which nothing of a task has changed.
use Rattle.std.specs.Prelude.{◌≡◌, ℕ, List}
use Rattle.tree_model.specs.Path.{IsAtOrBelow}
use Rattle.outside_traits.specs.Store.{Store}
use Rattle.store_model.specs.Origins.{Book, Line}
use Rattle.store_model.specs.Valid.{StandsIn}
use Rattle.store_model.specs.Publication.{stamp_at, work_at}

-- the line stands in the book
abbrev pub HasLine : Book → Line → Type 0
HasLine book line = (before : Book) × StandsIn book before line

-- the stamp of a task's folder, and all at or under its work folder, are as before
pub record KeepsWork (folder : List ℕ) (old new : Store) : Type 0 where
  pub stamp : new (stamp_at folder) ≡ old (stamp_at folder)
  pub work : (q : List ℕ) → IsAtOrBelow (work_at folder) q → new q ≡ old q

-- each line of the one book stands in the other
pub record HaveSameLines (book again : Book) : Type 0 where
  pub whole : (before : Book) (line : Line) → StandsIn book before line → HasLine again line
  pub only : (before : Book) (line : Line) → StandsIn again before line → HasLine book line
