-- What stands for a signature.
use Rattle.std.proofs.Common.{◌≡◌, ◌∙◌, sym, ap, ℕ, List, [], ◌∷◌, ◌++◌, Some, None}
use Rattle.tree_model.specs.declared.hash.Hash.{Hash}
use Rattle.tree_model.specs.declared.manifest.ManifestLine.{ManifestLine}
use Rattle.store_model.specs.declared.signature.EquivRow.{EquivRow}
use Rattle.store_model.specs.declared.signature.SigRecord.{SigRecord}
use Rattle.store_model.specs.Rows.{new_unihash, row_at}
use Rattle.store_model.specs.Spelling.{name_of, signature_bytes}
use Rattle.record_move.specs.declared.records.AddedRecord.{AddedRecord}
use Rattle.record_move.specs.Adding.{AddsRecord, HasStood, IsAdded, IsStanding, made_row, made_stored}

pub has_stood : (rows : List EquivRow) (name : Hash) (bytes : List ℕ) (sig : SigRecord) (unihash : Hash) → name ≡ name_of sig → bytes ≡ signature_bytes sig → IsStanding rows name bytes (Some unihash) → HasStood rows sig unihash
has_stood rows name bytes sig unihash named same s = record { row = s.0; found = ap (row_at rows) (sym named) ∙ s.1; signed = s.2 ∙ same; is = sym s.3 }

pub is_added : (rows longer : List EquivRow) (added more : List AddedRecord) (now : List (List ℕ × ℕ)) (name : Hash) (bytes : List ℕ) (sig : SigRecord) (manifest : List ManifestLine) (unihash : Hash) → name ≡ name_of sig → bytes ≡ signature_bytes sig
    → row_at rows name ≡ None → unihash ≡ new_unihash rows name sig.pn sig.task manifest → longer ≡ rows ++ made_row name bytes (made_stored rows name sig manifest) ∷ [] → AddsRecord added name (made_stored rows name sig manifest) more now
    → IsAdded rows added sig manifest unihash longer more now
is_added rows longer added more now name bytes sig manifest unihash named same none is row adds = record {
  none = ap (row_at rows) (sym named) ∙ none;
  is = is ∙ ap (λ (n : Hash). new_unihash rows n sig.pn sig.task manifest) named;
  row = row ∙ ap (λ (n : Hash). rows ++ made_row n bytes (made_stored rows n sig manifest) ∷ []) named ∙ ap (λ (b : List ℕ). rows ++ made_row (name_of sig) b (made_stored rows (name_of sig) sig manifest) ∷ []) same;
  adds = rw (sym named) adds;
}
