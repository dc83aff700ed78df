-- The bytes of a stamp.
use Rattle.std.proofs.Common.{◌≡◌, ℕ, ltb, ◌&&◌, Bool, true, false, List, [], ◌∷◌, length, refl, ap, arith, length-append}
use Rattle.std.specs.List.{list_all}
use Rattle.std.specs.Str.{IsAscii, IsUtf8}
use Rattle.std.proofs.lemmas.Bool.{false≢true, ltb-true}
use Rattle.std.proofs.lemmas.Str.{IsUtf8-from_ascii}
use Rattle.std.proofs.lemmas.Str.Ascii.{IsAscii-nil, IsAscii-cons}
use Rattle.hex.specs.Hex.{lower_digits}
use Rattle.hex.proofs.HexLemmas.{IsAscii-encode_with}
use Rattle.tree_model.specs.declared.hash.Hash.{Hash}
use Rattle.tree_model.specs.Hash.{hash_text}
use Rattle.stamp_store.specs.Stamp.{stamp_bytes}

both : (a b : Bool) → (a && b) ≡ true → (a ≡ true) × (b ≡ true)
both true b e = (refl, e)
both false b e = absurd (false≢true e)

low_digits : IsAscii lower_digits
low_digits = ascii_from_test lower_digits refl
  where
    ascii_from_test : (bs : List ℕ) → list_all (λ c. ltb c 128) bs ≡ true → IsAscii bs
    ascii_from_test [] e = IsAscii-nil
    ascii_from_test (c ∷ cs) e = IsAscii-cons c cs (ltb-true c 128 (both (ltb c 128) (list_all (λ c. ltb c 128) cs) e).0) (ascii_from_test cs (both (ltb c 128) (list_all (λ c. ltb c 128) cs) e).1)

-- the digits of a hash are a text
pub digits_utf8 : (hash : Hash) → IsUtf8 (hash_text hash)
digits_utf8 hash = IsUtf8-from_ascii (hash_text hash) (IsAscii-encode_with lower_digits hash.bytes low_digits)

-- no bytes are no stamp
pub not_empty : (bytes : List ℕ) → length bytes ≡ 0 → (hash : Hash) → bytes ≡ stamp_bytes hash → ⊥
not_empty bytes none hash same = omega (arith, none, ap length same, length-append (hash_text hash) (10 ∷ []))
