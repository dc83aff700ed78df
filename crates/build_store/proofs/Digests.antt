-- Texts of digests.
use Rattle.std.proofs.Common.{◌≡◌, ◌∙◌, sym, ap, ℕ, zero, suc, lit<, ◌<◌, List, [], ◌∷◌}
use Rattle.std.specs.List.{AllByRecursion}
use Rattle.hex.specs.Hex.{IsBytes, decode_sized}
use Rattle.hex.proofs.HexLemmas.{decode_sized-encode_lower}
use Rattle.tree_model.specs.declared.hash.Hash.{Hash}
use Rattle.tree_model.specs.Hash.{hash_text}
use Rattle.store_opening.specs.Named.{IsName}

bytes_are : (xs : List ℕ) → AllByRecursion (λ b. b < 256) xs → IsBytes xs
bytes_are [] all i = lit< tt
bytes_are (x ∷ xs) all zero = all.0
bytes_are (x ∷ xs) all (suc i) = bytes_are xs all.1 i

-- digests with one text are one
pub same_digest : (a b : Hash) → IsName a → IsName b → hash_text a ≡ hash_text b → a ≡ b
same_digest a b na nb e =
    let k = sym (decode_sized-encode_lower a.bytes 32 na.size (bytes_are a.bytes na.bytes)) ∙ ap (λ t. decode_sized t 32) e ∙ decode_sized-encode_lower b.bytes 32 nb.size (bytes_are b.bytes nb.bytes) in
    let same : a.bytes ≡ b.bytes = cc in
    ap (λ l. record { bytes = l }) same
