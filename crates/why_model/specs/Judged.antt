-- What a disk holds before a run: the rows of its believed records, and what stamps say. (Own rules.)
use Rattle.std.specs.Prelude.{◌≡◌, ℕ, Bool, List, [], ◌∷◌, ◌++◌, Option, None, Some}
use Rattle.tree_model.specs.declared.entry.Entry.{Entry}
use Rattle.tree_model.specs.declared.entry.Entry.TheVariants.{File}
use Rattle.tree_model.specs.declared.hash.Hash.{Hash}
use Rattle.tree_model.specs.Hash.{IsHash, hash_text}
use Rattle.outside_traits.specs.Store.{Store}
use Rattle.store_model.specs.declared.candidate.Candidate.{Candidate}
use Rattle.store_model.specs.declared.signature.EquivRow.{EquivRow}
use Rattle.store_model.specs.Believed.{AreBelieved}
use Rattle.store_model.specs.Opened.{AreFound, IsOpened, rows_at}

-- The rows are those of the believed records of what is held, by depth, then by name: those that a run over it opens the store with.
pub record IsJudged (held : Store) (rows : List EquivRow) : Type 0 where
  pub candidates : List Candidate
  pub found : AreFound held candidates
  pub places : List ℕ
  pub believed : AreBelieved candidates places
  pub rows_are : rows ≡ rows_at candidates places

-- So they are, whatever opening leaves.
abbrev pub JudgedAsOpened : Type 0
JudgedAsOpened = (before after : Store) (rows others : List EquivRow) → IsOpened before after rows → IsJudged before others → others ≡ rows

-- the name that a stamp says, a digest's digits and a newline; none where nothing says one
abbrev pub SaysName : Option Entry → Option Hash → Type 0
SaysName entry (Some name) = (exec : Bool) × (entry ≡ Some (File exec (hash_text name ++ 10 ∷ [])))
SaysName entry None = (name : Hash) (exec : Bool) → IsHash name → entry ≡ Some (File exec (hash_text name ++ 10 ∷ [])) → ⊥
