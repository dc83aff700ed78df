-- Reading keys, signatures and stored records.
use Rattle.std.specs.Prelude.{◌≡◌, ℕ, false, List, Option, Some, None, codes, if◌then◌else◌}
use Rattle.std.specs.Str.{bytes_eq}
use Rattle.sha2.specs.Sha256.{sha256}
use Rattle.tree_model.specs.declared.hash.Hash.{Hash}
use Rattle.meta_model.specs.Text.{is_empty}
use Rattle.meta_model.specs.declared.value.Key.{Key}
use Rattle.meta_model.specs.declared.value.KeyLine.{KeyLine}
use Rattle.store_model.specs.declared.signature.ShortSig.{ShortSig}
use Rattle.store_model.specs.declared.signature.ShortStored.{ShortStored}
use Rattle.store_model.specs.declared.signature.SigRecord.{SigRecord}
use Rattle.store_model.specs.declared.signature.StoredSig.{StoredSig}
use Rattle.store_model.specs.Spelling.{key_name, key_part, short_part, short_stored_of}
use Rattle.store_model.specs.Stored.{SpellsKey, SpellsShort, SpellsStored}
use Rattle.sig_gen.specs.Reading.{◌>>=◌, ascending_at, framed_at, hash_at, text_at, word_at}
use Rattle.sig_gen.specs.Parts.{dep_at, file_at, is_dep_before, is_file_before, is_line_before, key_line_at}
use Rattle.sig_gen.specs.Stored.{behind_signature, is_path_before, manifest_line_at}

-- the lines of a key, and nothing behind them
unfoldable pub key_at : List ℕ → Option (List KeyLine)
key_at bytes = do
  lines ← ascending_at is_line_before key_line_at bytes
  if is_empty lines.1 then Some lines.0 else None

unfoldable pub short_lists_at : List ℕ → List ℕ → Hash → List ℕ → Option ShortSig
short_lists_at pn task key bytes = do
  files ← ascending_at is_file_before file_at bytes
  deps ← ascending_at is_dep_before dep_at files.1
  if is_empty deps.1 then Some (record { pn = pn; task = task; key = key; files = files.0; deps = deps.0 }) else None

-- a whole signature, but for its key's lines
unfoldable pub short_at : List ℕ → Option ShortSig
short_at bytes = do
  start ← word_at (codes "bbsig2") bytes
  pn ← text_at start
  task ← text_at pn.1
  key ← hash_at task.1
  short_lists_at pn.0 task.0 key.0 key.1

abbrev pub with_key : ShortSig → List KeyLine → SigRecord
with_key s lines = record { pn = s.pn; task = s.task; key = record { lines = lines; excluded = false }; files = s.files; deps = s.deps }

-- the signature, with the key that these bytes are
unfoldable pub keyed : ShortSig → List ℕ → Option SigRecord
keyed short key = if bytes_eq short.key.bytes (sha256 key) then (key_at key >>= λ lines. Some (with_key short lines)) else None

unfoldable pub sig_at : List ℕ → List ℕ → Option SigRecord
sig_at bytes key = short_at bytes >>= λ short. keyed short key

-- a signature by its whole text
abbrev pub signature_at : List ℕ → Option SigRecord
signature_at text = sig_at (short_part text) (key_part text)

-- a whole stored record, but for its paths
unfoldable pub stored_at : List ℕ → List ℕ → Option StoredSig
stored_at bytes key = do
  start ← word_at (codes "bbrec2") bytes
  inner ← framed_at start
  sig ← sig_at inner.0 key
  behind_signature sig inner.1

-- the short text of a stored record's signature
unfoldable pub inner_at : List ℕ → Option (List ℕ)
inner_at bytes = do
  start ← word_at (codes "bbrec2") bytes
  inner ← framed_at start
  Some inner.0

-- ---- records whose key isn't read

-- what stands behind the signature, and nothing behind it
unfoldable pub behind_short : ShortSig → List ℕ → Option ShortStored
behind_short sig bytes = do
  manifest ← ascending_at is_path_before manifest_line_at bytes
  unihash ← hash_at manifest.1
  if is_empty unihash.1 then Some (record { sig = sig; manifest = manifest.0; unihash = unihash.0 }) else None

-- a whole stored record, but for its key's lines and its paths
unfoldable pub short_stored_at : List ℕ → Option ShortStored
short_stored_at bytes = do
  start ← word_at (codes "bbrec2") bytes
  inner ← framed_at start
  sig ← short_at inner.0
  behind_short sig inner.1

-- What spells a record spells it without its key; and with a key of that name that has a spelling it spells the whole.
abbrev pub ShortIsWhole : Type 0
ShortIsWhole =
    ((bytes : List ℕ) (stored : StoredSig) → SpellsStored bytes stored → SpellsShort bytes (short_stored_of stored))
    × ((bytes key : List ℕ) (s : ShortStored) (k : Key) → SpellsShort bytes s → SpellsKey key k → s.sig.key ≡ key_name k →
    SpellsStored bytes (record { sig = record { pn = s.sig.pn; task = s.sig.task; key = k; files = s.sig.files; deps = s.sig.deps }; manifest = s.manifest; unihash = s.unihash }))
