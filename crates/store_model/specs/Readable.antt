-- Records that opening a store takes for records, whatever a crash leaves.
use Rattle.std.specs.Prelude.{◌≡◌, ◌≤◌, ℕ, false, List, length, All, Some}
use Rattle.std.specs.List.{AllByRecursion}
use Rattle.sha2.specs.Sha256.{sha256}
use Rattle.tree_model.specs.declared.entry.Entry.TheVariants.{File}
use Rattle.tree_model.specs.declared.manifest.ManifestLine.{ManifestLine}
use Rattle.outside_traits.specs.Store.{Store}
use Rattle.outside_traits.specs.Story.{IsImage, Story}
use Rattle.store_model.specs.declared.signature.EquivRow.{EquivRow}
use Rattle.store_model.specs.declared.signature.ShortStored.{ShortStored}
use Rattle.store_model.specs.declared.signature.StoredSig.{StoredSig}
use Rattle.store_model.specs.Origins.{Line}
use Rattle.store_model.specs.Spelling.{name_of, record_bytes, short_bytes, short_name, short_record, signature_bytes, whole_text}
use Rattle.store_model.specs.Valid.{stored_of}
use Rattle.store_model.specs.Stored.{SpellsShort, SpellsStored}
use Rattle.store_model.specs.Paths.{key_path, record_path}
use Rattle.store_model.specs.Publication.{short_file}

-- what the index knows of a stored record
abbrev pub row_of_stored : StoredSig → EquivRow
row_of_stored stored = record { name = name_of stored.sig; pn = stored.sig.pn; task = stored.sig.task; sig = signature_bytes stored.sig; manifest = stored.manifest; unihash = stored.unihash }

-- ... and of one whose key has these bytes
abbrev pub row_of_short : ShortStored → List ℕ → EquivRow
row_of_short s key = record { name = short_name s.sig; pn = s.sig.pn; task = s.sig.task; sig = whole_text (short_bytes s.sig) key; manifest = s.manifest; unihash = s.unihash }

-- no path of a manifest has more than 3,072 bytes (own rule)
abbrev pub HasShortPaths : List ManifestLine → Type 0
HasShortPaths lines = All (λ l. length l.path ≤ 3072) lines

-- A row is that of a record, which has a spelling and short paths, and of a key that has the digest that the record says.
pub record IsRow (row : EquivRow) : Type 0 where
  pub stored : ShortStored
  pub key : List ℕ
  pub is : row ≡ row_of_short stored key
  pub spelled : SpellsShort (short_record stored) stored
  pub short : HasShortPaths stored.manifest
  pub digest : sha256 key ≡ stored.sig.key.bytes

-- The line's stored record has a spelling, and its manifest has short paths: opening takes its file for a record.
pub record IsReadable (line : Line) : Type 0 where
  pub spelled : SpellsStored (record_bytes (stored_of line)) (stored_of line)
  pub short : HasShortPaths line.manifest

-- its record and its key are held, each under its name
pub record IsHeld (image : Store) (row : EquivRow) : Type 0 where
  pub known : IsRow row
  pub held : image (record_path row.name) ≡ Some (short_file known.stored)
  pub key_held : image (key_path known.stored.sig.key) ≡ Some (File false known.key)

-- Whatever a crash leaves now holds the records of all these rows, and their keys.
abbrev pub HoldsRecords : Story → List EquivRow → Type 0
HoldsRecords story rows = (image : Store) → IsImage story image → AllByRecursion (IsHeld image) rows
