-- Whole texts of signatures, and rows.
use Rattle.std.proofs.Common.{◌≡◌, ◌∙◌, sym, ap, subst, false, List, ℕ, ◌++◌, Some}
use Rattle.std.specs.Prelude.{codes}
use Rattle.sha2.specs.Sha256.{sha256}
use Rattle.tree_model.specs.declared.entry.Entry.TheVariants.{File}
use Rattle.tree_model.specs.declared.hash.Hash.{Hash}
use Rattle.tree_model.specs.Bytes.{framed, manifest_bytes}
use Rattle.tree_model.specs.Hash.{hash_text}
use Rattle.outside_traits.specs.Store.{Store}
use Rattle.store_model.specs.declared.signature.EquivRow.{EquivRow}
use Rattle.store_model.specs.declared.signature.ShortSig.{ShortSig}
use Rattle.store_model.specs.declared.signature.ShortStored.{ShortStored}
use Rattle.store_model.specs.declared.signature.SigRecord.{SigRecord}
use Rattle.store_model.specs.declared.signature.StoredSig.{StoredSig}
use Rattle.store_model.specs.OneSpelling.{Fits}
use Rattle.store_model.specs.Paths.{key_path}
use Rattle.store_model.specs.Publication.{record_file, short_file}
use Rattle.store_model.specs.Readable.{IsHeld, IsRow, row_of_short, row_of_stored}
use Rattle.store_model.specs.Sound.{IsSignature}
use Rattle.store_model.specs.Spelling.{key_bytes, key_name, key_part, name_of, record_bytes, short_bytes, short_name, short_of, short_part, short_record, short_stored_of, signature_bytes, text_name, whole_text}
use Rattle.store_model.specs.Stored.{SpellsShort, SpellsStored}
use Rattle.store_model.specs.Valid.{key_file}
use Rattle.store_model.proofs.Digests.{key_name_is_hash}
use Rattle.store_model.proofs.Reading.{key_of_whole, short_of_whole}
use Rattle.sig_gen.proofs.ShortLaws.{short_is_whole, short_stored_again}
use Rattle.store_opening.proofs.Hexed.{name_is_short}
use Rattle.build_store.specs.Keys.{HoldsKeyOf, text_key, text_key_file}

-- ---- texts

pub text_parts : (sig : SigRecord) → signature_bytes sig ≡ whole_text (short_bytes (short_of sig)) (key_bytes sig.key)
unfolding signature_bytes
text_parts sig i = whole_text (short_bytes (short_of sig)) (key_bytes sig.key)

pub text_short : (sig : SigRecord) → short_part (signature_bytes sig) ≡ short_bytes (short_of sig)
text_short sig = ap short_part (text_parts sig) ∙ short_of_whole (short_bytes (short_of sig)) (key_bytes sig.key)

pub text_key_bytes : (sig : SigRecord) → key_part (signature_bytes sig) ≡ key_bytes sig.key
text_key_bytes sig = ap key_part (text_parts sig) ∙ key_of_whole (short_bytes (short_of sig)) (key_bytes sig.key)

pub text_key_is : (sig : SigRecord) → text_key (signature_bytes sig) ≡ key_name sig.key
unfolding key_name
text_key_is sig i = record { bytes = sha256 (text_key_bytes sig i) }

pub text_file_is : (sig : SigRecord) → text_key_file (signature_bytes sig) ≡ key_file sig.key
text_file_is sig = ap (λ (b : List ℕ). File false b) (text_key_bytes sig)

pub text_name_is : (sig : SigRecord) → text_name (signature_bytes sig) ≡ name_of sig
unfolding name_of
text_name_is sig i = record { bytes = sha256 (text_short sig i) }

-- ---- rows

short_named : (s : ShortSig) → short_name s ≡ record { bytes = sha256 (short_bytes s) }
unfolding short_name
short_named s i = record { bytes = sha256 (short_bytes s) }

module _ (row : EquivRow) (known : IsRow row) where
  pub row_short : short_part row.sig ≡ short_bytes known.stored.sig
  row_short = ap (λ (r : EquivRow). short_part r.sig) known.is ∙ short_of_whole (short_bytes known.stored.sig) known.key

  pub row_key : key_part row.sig ≡ known.key
  row_key = ap (λ (r : EquivRow). key_part r.sig) known.is ∙ key_of_whole (short_bytes known.stored.sig) known.key

  pub row_name : row.name ≡ text_name row.sig
  row_name = ap (λ (r : EquivRow). r.name) known.is ∙ short_named known.stored.sig ∙ (λ i. record { bytes = sha256 (sym row_short i) })

  pub row_key_name : text_key row.sig ≡ known.stored.sig.key
  row_key_name = (λ i. record { bytes = sha256 (row_key i) }) ∙ (λ i. record { bytes = known.digest i })

  -- the row of a record with this signature is that of the record
  pub short_same : (sig : SigRecord) → row.sig ≡ signature_bytes sig → short_bytes known.stored.sig ≡ short_bytes (short_of sig)
  short_same sig same = sym row_short ∙ ap short_part same ∙ text_short sig

  record_same : (stored : StoredSig) → row.sig ≡ signature_bytes stored.sig → row.manifest ≡ stored.manifest → row.unihash ≡ stored.unihash → short_record known.stored ≡ record_bytes stored
  unfolding record_bytes short_record
  record_same stored sig manifest unihash =
      let short = short_same stored.sig sig in
      let lines : known.stored.manifest ≡ stored.manifest = ap (λ (r : EquivRow). r.manifest) (sym known.is) ∙ manifest in
      let name : known.stored.unihash ≡ stored.unihash = ap (λ (r : EquivRow). r.unihash) (sym known.is) ∙ unihash in
      λ i. framed (codes "bbrec2") ++ (framed (short i) ++ (manifest_bytes (lines i) ++ framed (hash_text (name i))))

  pub file_same : (stored : StoredSig) → row.sig ≡ signature_bytes stored.sig → row.manifest ≡ stored.manifest → row.unihash ≡ stored.unihash → short_file known.stored ≡ record_file stored
  file_same stored sig manifest unihash = ap (λ (b : List ℕ). File false b) (record_same stored sig manifest unihash)

  -- with the short text of a signature a row has the digest of its key
  module _ (sig : SigRecord) (sound : IsSignature sig) (shorts : short_part row.sig ≡ short_part (signature_bytes sig)) where
    abbrev Other : ShortStored
    Other = record { sig = short_of sig; manifest = known.stored.manifest; unihash = known.stored.unihash }

    short_too : short_bytes known.stored.sig ≡ short_bytes (short_of sig)
    short_too = sym row_short ∙ shorts ∙ text_short sig

    bytes_too : short_record known.stored ≡ short_record Other
    unfolding short_record
    bytes_too i = framed (codes "bbrec2") ++ (framed (short_too i) ++ (manifest_bytes known.stored.manifest ++ framed (hash_text known.stored.unihash)))

    spelled_too : SpellsShort (short_record known.stored) Other
    spelled_too = record {
      pn = sound.pn;
      task = sound.task;
      key = key_name_is_hash sig.key;
      files = sound.files;
      files_ascend = sound.spelled.files;
      deps = sound.deps;
      deps_ascend = sound.spelled.deps;
      few = subst (λ (l : List ℕ). Fits l) short_too known.spelled.few;
      lines = known.spelled.lines;
      ascends = known.spelled.ascends;
      unihash = known.spelled.unihash;
      paths = known.spelled.paths;
      is = bytes_too;
    }

    pub key_named_too : known.stored.sig.key ≡ key_name sig.key
    key_named_too =
        let read : Some known.stored ≡ Some Other = sym (short_stored_again (short_record known.stored) known.stored known.spelled) ∙ short_stored_again (short_record known.stored) Other spelled_too in
        let same : known.stored ≡ Other = cc in
        ap (λ (s : ShortStored). s.sig.key) same

    pub key_digest_too : sha256 (key_part row.sig) ≡ sha256 (key_part (signature_bytes sig))
    key_digest_too = ap (λ (h : Hash). h.bytes) (row_key_name ∙ key_named_too ∙ sym (text_key_is sig))

-- the key of a row that is held is held
pub held_key : (image : Store) (row : EquivRow) → IsHeld image row → HoldsKeyOf row.sig image
held_key image row h =
    ap (λ (n : Hash). image (key_path n)) (row_key_name row h.known) ∙ h.key_held ∙ ap (λ (b : List ℕ). Some (File false b)) (sym (row_key row h.known))

pub short_spelled : (stored : StoredSig) → SpellsStored (record_bytes stored) stored → SpellsShort (short_record (short_stored_of stored)) (short_stored_of stored)
unfolding record_bytes
short_spelled stored h = short_is_whole.0 (record_bytes stored) stored h

-- a record's row
pub record_row : (stored : StoredSig) → row_of_stored stored ≡ row_of_short (short_stored_of stored) (key_bytes stored.sig.key)
record_row stored i = record { name = name_is_short stored.sig i; pn = stored.sig.pn; task = stored.sig.task; sig = text_parts stored.sig i; manifest = stored.manifest; unihash = stored.unihash }

pub key_digest : (sig : SigRecord) → sha256 (key_bytes sig.key) ≡ (key_name sig.key).bytes
unfolding key_name
key_digest sig i = sha256 (key_bytes sig.key)
