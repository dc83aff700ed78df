-- In which round an added record may be put: behind all rounds of the added records that it names. So those of one round may be put in any
-- order, and between two rounds the disk is synced once.
use Rattle.std.specs.Prelude.{[], ◌||◌, ◌≡◌, ◌<◌, ◌+◌, ◌++◌, ◌∷◌, ℕ, Bool, true, false, List, Option, Some, None, find, fold, max}
use Rattle.std.specs.List.{AllZip}
use Rattle.tree_model.specs.declared.hash.Hash.{Hash}
use Rattle.meta_model.specs.CleanBuild.{Gives}
use Rattle.store_model.specs.declared.signature.DepLine.{DepLine}
use Rattle.store_model.specs.declared.signature.StoredSig.{StoredSig}
use Rattle.store_model.specs.Rows.{hash_eq}
use Rattle.store_model.specs.Origins.{Book, Line, Reading}
use Rattle.store_model.specs.Valid.{StandsIn, stored_of}
use Rattle.store_model.specs.Spelling.{name_of}
use Rattle.store_move.specs.Formats.{IsValidBook}
use Rattle.store_move.specs.Parts.{IsClosed, part}
use Rattle.record_move.specs.declared.records.AddedRecord.{AddedRecord}
use Rattle.store_move.specs.Moves.{present}

abbrev pub round_in : Option AddedRecord → Option ℕ
round_in None = None
round_in (Some a) = Some a.round

-- the round of the added record of a name
abbrev pub round_of : List AddedRecord → Hash → Option ℕ
round_of added name = round_in (find (λ a. hash_eq a.name name) added)

abbrev pub behind : Option ℕ → ℕ
behind None = 0
behind (Some round) = round + 1

-- the first round behind all rounds of those of the added records that are named: as needed tasks, or by the unihash
abbrev pub round_for : List AddedRecord → StoredSig → ℕ
round_for added stored = max (fold (λ round (dep : DepLine). max round (behind (round_of added dep.name))) 0 stored.sig.deps) (behind (round_of added stored.unihash))

-- each added record is in the first round behind those of the earlier ones that it names
abbrev pub AreRounds : List AddedRecord → Type 0
AreRounds added = (before rest : List AddedRecord) (a : AddedRecord) → added ≡ before ++ a ∷ rest → a.round ≡ round_for before a.stored

-- the added record is that of the line
pub record IsAddedAs (line : Line) (a : AddedRecord) : Type 0 where
  pub name : a.name ≡ name_of line.sig
  pub stored : a.stored ≡ stored_of line

-- ---- what a crash leaves in a round

-- The lines that stood before are there, and of the added ones those of all earlier rounds, none of a later round, and any of this one.
pub record IsInRound (start more : Book) (added : List AddedRecord) (round : ℕ) (keep : Line → Bool) : Type 0 where
  pub stood : (before : Book) (line : Line) → StandsIn start before line → keep line ≡ true
  pub earlier : AllZip (λ line (a : AddedRecord). a.round < round → keep line ≡ true) more added
  pub later : AllZip (λ line (a : AddedRecord). round < a.round → keep line ≡ false) more added

-- Whatever of a round was put, the lines that are there are a valid book.
abbrev pub RoundIsValid : Type 0
RoundIsValid = (gives : Gives) (reading : Reading) (start more : Book) (added : List AddedRecord) (round : ℕ) (keep : Line → Bool) → IsValidBook present gives reading (start ++ more) → AllZip IsAddedAs more added → AreRounds added →
    IsInRound start more added round keep → IsValidBook present gives reading (part keep (start ++ more))

-- ---- lines that go in rounds, the last round first

-- Lines go whose rounds are told of the whole book: those of all later rounds are gone, any of this one, and none of an earlier one; others stay, with
-- all that these name. What is left is a valid book.
abbrev pub RemovalIsValid : Type 0
RemovalIsValid = (gives : Gives) (reading : Reading) (book : Book) (added : List AddedRecord) (round : ℕ) (stay keep : Line → Bool) → IsValidBook present gives reading book → AllZip IsAddedAs book added → AreRounds added →
    IsClosed present stay book → IsInRound [] book added round keep → IsValidBook present gives reading (part (λ line. stay line || keep line) book)
