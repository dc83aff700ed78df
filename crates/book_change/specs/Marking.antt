-- Lines that are marked by their places.
use Rattle.std.specs.Prelude.{◌≡◌, Bool, ℕ, List, Contains, length, false, slice_index_or}
use Rattle.tree_model.specs.declared.hash.Hash.{Hash}
use Rattle.meta_model.specs.CleanBuild.{Gives}
use Rattle.store_model.specs.declared.signature.DepLine.{DepLine}
use Rattle.store_model.specs.Spelling.{name_of}
use Rattle.store_model.specs.Origins.{Book, Line, Reading}
use Rattle.store_model.specs.Valid.{StandsIn, IsValidBook}
use Rattle.store_keep.specs.Keep.{AreClosed, Names}
use Rattle.book_change.specs.Going.{IsClosed}

-- Of each line the places of those are told that it names, as needed tasks or by its unihash.
pub record AreEdgesOf (book : Book) (edges : List (List ℕ)) : Type 0 where
  pub deps : (before behind : Book) (line earlier : Line) (dep : DepLine) → StandsIn book before line → StandsIn before behind earlier → Contains line.sig.deps dep → name_of earlier.sig ≡ dep.name → Names edges (length before) (length behind)
  pub unihash : (before behind : Book) (line earlier : Line) → StandsIn book before line → StandsIn before behind earlier → line.unihash ≡ name_of earlier.sig → Names edges (length before) (length behind)

-- the names that stay are those of the marked lines
abbrev pub KeepsMarked : Book → List Bool → (Hash → Bool) → Type 0
KeepsMarked book marks keep = (before : Book) (line : Line) → StandsIn book before line → keep (name_of line.sig) ≡ slice_index_or marks (length before) false

-- Where what a marked line names is marked, what goes is closed upwards.
abbrev pub MarkedIsClosed : Type 0
MarkedIsClosed = (gives : Gives) (reading : Reading) (book : Book) (edges : List (List ℕ)) (marks : List Bool) (keep : Hash → Bool) → IsValidBook gives reading book → AreEdgesOf book edges → AreClosed edges marks → KeepsMarked book marks keep →
    IsClosed keep book
