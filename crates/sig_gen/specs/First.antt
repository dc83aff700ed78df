-- Reading the first format, of which a move brings the records to the present one.
use Rattle.std.specs.Prelude.{ℕ, false, List, [], Option, Some, None, codes, if◌then◌else◌}
use Rattle.meta_model.specs.Text.{is_empty}
use Rattle.store_model.specs.declared.signature.SigRecord.{SigRecord}
use Rattle.store_model.specs.declared.signature.StoredSig.{StoredSig}
use Rattle.sig_gen.specs.Reading.{◌>>=◌, ascending_at, framed_at, text_at, word_at}
use Rattle.sig_gen.specs.Parts.{dep_at, file_at, is_dep_before, is_file_before, is_line_before, key_line_at}
use Rattle.sig_gen.specs.Stored.{behind_signature}

-- the lists of a signature, and nothing behind them
unfoldable pub first_lists_at : List ℕ → List ℕ → List ℕ → Option SigRecord
first_lists_at pn task bytes = do
  lines ← ascending_at is_line_before key_line_at bytes
  files ← ascending_at is_file_before file_at lines.1
  deps ← ascending_at is_dep_before dep_at files.1
  if is_empty deps.1 then Some (record { pn = pn; task = task; key = record { lines = lines.0; excluded = false }; files = files.0; deps = deps.0 }) else None

-- a whole signature
unfoldable pub first_at : List ℕ → Option SigRecord
first_at bytes = do
  start ← word_at (codes "bbsig1") bytes
  pn ← text_at start
  task ← text_at pn.1
  first_lists_at pn.0 task.0 task.1

-- a whole stored record, but for its paths
unfoldable pub first_stored_at : List ℕ → Option StoredSig
first_stored_at bytes = do
  start ← word_at (codes "bbrec1") bytes
  inner ← framed_at start
  sig ← first_at inner.0
  behind_signature sig inner.1
