-- Lines that come behind a book in any choice.
use Rattle.std.specs.Prelude.{◌≡◌, ◌≢◌, List, [], ◌∷◌, ◌++◌}
use Rattle.std.specs.List.{AllByRecursion}
use Rattle.meta_model.specs.CleanBuild.{Gives}
use Rattle.store_model.specs.Origins.{Book, Line, Reading}
use Rattle.store_model.specs.Spelling.{name_of}
use Rattle.store_model.specs.Valid.{IsValidBook, IsValidLine}
use Rattle.store_model.specs.declared.signature.SigRecord.{SigRecord}

-- the lines are of two tasks, and have two names
pub record AreTwo (a b : Line) : Type 0 where
  pub names : name_of a.sig ≢ name_of b.sig
  pub tasks : a.sig.pn ≡ b.sig.pn → a.sig.task ≡ b.sig.task → ⊥

-- so are each two of these lines
abbrev pub AllTwo : List Line → Type 0
AllTwo [] = Unit {0}
AllTwo (line ∷ more) = AllByRecursion (AreTwo line) more × AllTwo more

-- the line has another name than the signature, and is of another task
pub record IsOther (sig : SigRecord) (line : Line) : Type 0 where
  pub names : name_of line.sig ≢ name_of sig
  pub tasks : line.sig.pn ≡ sig.pn → line.sig.task ≡ sig.task → ⊥

-- A line that is valid behind a book is so behind further lines, which are of other tasks and have other names.
abbrev pub LineStaysValid : Type 0
LineStaysValid = (gives : Gives) (reading : Reading) (book more : Book) (line : Line) → IsValidBook gives reading book → IsValidLine gives reading book line → AllByRecursion (AreTwo line) more → IsValidLine gives reading (book ++ more) line

-- Any lines of which each is valid behind a valid book alone, and each two are of two tasks and have two names, make a valid book behind it.
abbrev pub LinesJoin : Type 0
LinesJoin = (gives : Gives) (reading : Reading) (book lines : Book) → IsValidBook gives reading book → AllByRecursion (IsValidLine gives reading book) lines → AllTwo lines → IsValidBook gives reading (book ++ lines)
