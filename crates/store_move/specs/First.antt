-- The first format of records, which nothing writes any more: a signature has the lines of its key in itself, and stands in its record whole.
use Rattle.std.specs.Prelude.{◌≡◌, ℕ, List, ◌++◌, codes}
use Rattle.sha2.specs.Sha256.{sha256}
use Rattle.tree_model.specs.declared.hash.Hash.{Hash}
use Rattle.tree_model.specs.Hash.{IsHash, hash_text}
use Rattle.tree_model.specs.Bytes.{framed, manifest_bytes}
use Rattle.outside_traits.specs.Store.{Store}
use Rattle.meta_model.specs.CleanBuild.{Gives}
use Rattle.store_model.specs.declared.signature.SigRecord.{SigRecord}
use Rattle.store_model.specs.declared.signature.StoredSig.{StoredSig}
use Rattle.store_model.specs.OneSpelling.{AllFit, Fits}
use Rattle.store_model.specs.Origins.{Book, Reading}
use Rattle.store_model.specs.Sound.{IsSignature}
use Rattle.store_model.specs.Spelled.{Ascends}
use Rattle.store_model.specs.Spelling.{dep_bytes, file_bytes, key_bytes, key_line_bytes, key_name, listed, record_bytes}
use Rattle.store_model.specs.Stored.{ArePaths, IsManifestLine, path_cmp}
use Rattle.store_model.specs.Valid.{IsValid}
use Rattle.store_move.specs.Formats.{Format}
use Rattle.store_move.specs.Moves.{present}
use Rattle.store_move.specs.Stores.{HasKeys, HoldsBook, Keys, Shape}

-- A signature: the framed word `bbsig1`, PN and task, the key's lines, the files, the needed tasks (own rule).
unfoldable pub first_bytes : SigRecord → List ℕ
first_bytes sig = framed (codes "bbsig1") ++ (framed sig.pn ++ (framed sig.task
    ++ (listed key_line_bytes sig.key.lines ++ (listed file_bytes sig.files ++ listed dep_bytes sig.deps))))

-- A stored record: the framed word `bbrec1`, the framed signature, the manifest, the framed text of the unihash (own rule).
unfoldable pub first_record : StoredSig → List ℕ
first_record stored = framed (codes "bbrec1") ++ (framed (first_bytes stored.sig)
    ++ (manifest_bytes stored.manifest ++ framed (hash_text stored.unihash)))

-- The name of a record is the SHA-256 of its signature's bytes (own rule).
unfoldable pub first_name : SigRecord → Hash
first_name sig = record { bytes = sha256 (first_bytes sig) }

abbrev pub first : Format
first = record { name_of = first_name; sig_bytes = first_bytes }

-- where each format keeps its records: `rec/NAME` and `rec2/NAME`
abbrev pub first_shape : Shape
first_shape = record { form = first; folder = codes "rec"; record_bytes = first_record }

abbrev pub second_shape : Shape
second_shape = record { form = present; folder = codes "rec2"; record_bytes = record_bytes }

abbrev pub second_keys : Keys
second_keys = record { name = key_name; bytes = key_bytes }

-- The bytes are the one spelling of this stored record.
pub record SpellsFirst (bytes : List ℕ) (stored : StoredSig) : Type 0 where
  pub sig : IsSignature stored.sig
  pub few : Fits (first_bytes stored.sig)
  pub lines : AllFit IsManifestLine stored.manifest
  pub ascends : Ascends path_cmp stored.manifest
  pub unihash : IsHash stored.unihash
  pub paths : ArePaths stored.manifest
  pub is : bytes ≡ first_record stored

-- A store that holds a book of the second format with all its keys is what a valid store is.
abbrev pub IsOneStore : Type 0
IsOneStore = (gives : Gives) (reading : Reading) (held : Store) (book : Book) →
    (HoldsBook second_shape gives reading held book → HasKeys second_keys held book → IsValid gives reading held book)
    × (IsValid gives reading held book → HoldsBook second_shape gives reading held book × HasKeys second_keys held book)
