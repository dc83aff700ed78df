-- Which records of another store are wanted: those that are asked for, and what these name.
use Rattle.std.specs.Prelude.{◌≡◌, ◌||◌, Bool, true, false, List, [], ◌∷◌, ◌++◌, Contains, if◌then◌else◌, length, reverse, slice_index_or}
use Rattle.std.specs.Option.{is_some}
use Rattle.std.specs.List.{list_any}
use Rattle.tree_model.specs.declared.hash.Hash.{Hash}
use Rattle.meta_model.specs.CleanBuild.{Gives}
use Rattle.record_move.specs.declared.records.OldRecord.{OldRecord}
use Rattle.store_model.specs.declared.signature.DepLine.{DepLine}
use Rattle.store_model.specs.declared.signature.StoredSig.{StoredSig}
use Rattle.store_model.specs.Origins.{Book, Line, Reading}
use Rattle.store_model.specs.Rows.{hash_eq}
use Rattle.store_model.specs.Valid.{stored_of}
use Rattle.store_move.specs.Formats.{Format, IsValidBook}
use Rattle.record_move.specs.declared.backward.Wanting.{Wanting as WantingNow}
use Rattle.record_move.specs.Moved.{AreLinesOf}
use Rattle.record_move.specs.Named.{value_at}

-- the record names this one, as a needed task or by its unihash
abbrev pub names : Hash → StoredSig → Bool
names name stored = list_any (λ (dep : DepLine). hash_eq dep.name name) stored.sig.deps || hash_eq stored.unihash name

-- one of the records names it
abbrev pub is_named : Hash → List OldRecord → Bool
is_named name records = list_any (λ (c : OldRecord). names name c.stored) records

-- From the last record to the first: one is wanted where it is asked for, or where a wanted one behind it names it (own rule).
abbrev pub wanted_of : List Bool → List OldRecord → List OldRecord
wanted_of [] records = []
wanted_of (asked ∷ more) [] = []
wanted_of (asked ∷ more) (c ∷ records) = if asked || is_named c.name (wanted_of more records) then c ∷ wanted_of more records else wanted_of more records

-- what is kept of them: the records from the last to the first, and the names that they have
pub record IsWanting (records : List OldRecord) (w : WantingNow) : Type 0 where
  pub found : reverse w.found.items ≡ records
  pub noted : (q : Hash) → is_some (value_at w.noted.entries q) ≡ is_named q records

-- ---- the same of lines

-- one of the lines names it
abbrev pub is_named_by : Hash → Book → Bool
is_named_by name lines = list_any (λ (line : Line). names name (stored_of line)) lines

abbrev pub wanted_lines : Format → List Bool → Book → Book
wanted_lines from [] lines = []
wanted_lines from (asked ∷ more) [] = []
wanted_lines from (asked ∷ more) (line ∷ lines) =
    if asked || is_named_by (from.name_of line.sig) (wanted_lines from more lines) then line ∷ wanted_lines from more lines else wanted_lines from more lines

-- The wanted records are those of the wanted lines; these are a valid book, of which each line stands in the whole one.
pub record IsWantedPart (from : Format) (gives : Gives) (reading : Reading) (asked : List Bool) (olds : List OldRecord) (book : Book) : Type 0 where
  pub records : AreLinesOf from (wanted_of asked olds) (wanted_lines from asked book)
  pub valid : IsValidBook from gives reading (wanted_lines from asked book)

abbrev pub WantedIsValid : Type 0
WantedIsValid = (from : Format) (gives : Gives) (reading : Reading) (asked : List Bool) (olds : List OldRecord) (book : Book) → IsValidBook from gives reading book → AreLinesOf from olds book → IsWantedPart from gives reading asked olds book

-- Each line that is asked for is wanted.
abbrev pub AskedAreWanted : Type 0
AskedAreWanted = (from : Format) (asked : List Bool) (before rest : Book) (line : Line) → slice_index_or asked (length before) false ≡ true → Contains (wanted_lines from asked (before ++ line ∷ rest)) line
