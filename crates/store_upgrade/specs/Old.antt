-- The records of the first format that a store still has, and which of them are believed.
use Rattle.std.specs.Prelude.{◌≡◌, ◌⊎◌, ◌++◌, ◌∷◌, ℕ, List, [], false, map, codes, filter_map, slice_get, Contains, Some}
use Rattle.std.specs.List.{AllByRecursion}
use Rattle.tree_model.specs.declared.entry.Entry.{Entry}
use Rattle.tree_model.specs.declared.entry.Entry.TheVariants.{File}
use Rattle.tree_model.specs.declared.hash.Hash.{Hash}
use Rattle.tree_model.specs.Hash.{hash_text}
use Rattle.tree_model.specs.Path.{inside}
use Rattle.outside_traits.specs.Store.{Store}
use Rattle.store_model.specs.declared.candidate.Candidate.{Candidate}
use Rattle.store_model.specs.declared.signature.StoredSig.{StoredSig}
use Rattle.store_model.specs.Believed.{AreBelieved, Ascend}
use Rattle.store_model.specs.Readable.{HasShortPaths}
use Rattle.store_model.specs.Spelling.{short_stored_of, whole_text}
use Rattle.store_move.specs.First.{SpellsFirst, first_name, first_record}
use Rattle.store_opening.specs.Survey.{HeldFile}
use Rattle.record_move.specs.declared.records.OldRecord.{OldRecord}

-- where a record of the first format stands: `rec/NAME`
abbrev pub old_path : Hash → List ℕ
old_path name = inside (codes "rec") (hash_text name)

abbrev pub old_file : StoredSig → Entry
old_file stored = File false (first_record stored)

-- The record may be believed, but for where it stands: it has its spelling in the first format and its name there, and no path of its manifest has more
-- than 3,072 bytes (own rule).
pub record IsGoodOld (old : OldRecord) : Type 0 where
  pub name : old.name ≡ first_name old.stored.sig
  pub spelled : SpellsFirst (first_record old.stored) old.stored
  pub short : HasShortPaths old.stored.manifest

-- A file under `rec/` that may be believed: it can't be executed, and it spells such a record, under whose name it stands (own rule).
pub record IsOldFile (held : Store) (old : OldRecord) : Type 0 where
  pub good : IsGoodOld old
  pub file : held (old_path old.name) ≡ Some (old_file old.stored)

-- the file that was read is that of the record
pub record IsOldIn (f : HeldFile) (old : OldRecord) : Type 0 where
  pub good : IsGoodOld old
  pub at : f.0 ≡ old_path old.name
  pub is : f.1 ≡ old_file old.stored

-- What an old record is among candidates: its name, and what it stores, with its key's name. Nothing looks at a text.
abbrev pub candidate_of : OldRecord → Candidate
candidate_of old = record { name = old.name; stored = short_stored_of old.stored; sig = whole_text [] [] }

-- just such files, each once, in the order of their names
pub record AreOldFound (held : Store) (olds : List OldRecord) : Type 0 where
  pub ascend : Ascend (map candidate_of olds)
  pub each : AllByRecursion (IsOldFile held) olds
  pub whole : (old : OldRecord) → IsOldFile held old → Contains olds old

-- those at these places
abbrev pub olds_at : List OldRecord → List ℕ → List OldRecord
olds_at olds places = filter_map (slice_get olds) places

-- The believed records of the first format, by depth, then by name: what one names stands before it. Which are believed is told as of the present format.
pub record AreOlds (held : Store) (olds : List OldRecord) : Type 0 where
  pub found : List OldRecord
  pub are : AreOldFound held found
  pub places : List ℕ
  pub believed : AreBelieved (map candidate_of found) places
  pub is : olds ≡ olds_at found places

-- one more of these, if the file is one's
abbrev pub TakesOld : HeldFile → List OldRecord → List OldRecord → Type 0
TakesOld f old new = ((one : OldRecord) × IsOldIn f one × (new ≡ old ++ one ∷ [])) ⊎ (((one : OldRecord) → IsOldIn f one → ⊥) × (new ≡ old))
