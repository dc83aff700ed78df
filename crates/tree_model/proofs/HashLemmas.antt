-- Digests and their texts.
use Rattle.std.proofs.Common.{◌≡◌, ◌∙◌, ◌+◌, ◌*◌, ◌/◌, ◌%◌, ◌<◌, ◌≤◌, ap, sym, refl, arith, ℕ, zero, suc, List, [], ◌∷◌, ◌++◌, length, take, slice_index, slice_set}
use Rattle.std.proofs.lemmas.List.{take_all, take_more, take_more_set}
use Rattle.hex.specs.Hex.{encode_with, lower_digits}
use Rattle.hex.proofs.HexLemmas.{length-encode_with}
use Rattle.tree_model.specs.declared.hash.Hash.{Hash}
use Rattle.tree_model.specs.Hash.{IsHash, hash_text}

-- the first digit of the byte at place i
high_digit : (t xs : List ℕ) (i : ℕ) → i < length xs → slice_index (encode_with t xs) (2 * i) ≡ slice_index t (slice_index xs i / 16)
unfolding encode_with
high_digit t [] i lt = absurd (omega arith)
high_digit t (b ∷ rest) zero lt = refl
high_digit t (b ∷ rest) (suc i) lt =
    let two : 2 * suc i ≡ suc (suc (2 * i)) = omega arith in
    rw two (high_digit t rest i (omega arith))

-- the second digit of the byte at place i
low_digit : (t xs : List ℕ) (i : ℕ) → i < length xs → slice_index (encode_with t xs) (2 * i + 1) ≡ slice_index t (slice_index xs i % 16)
unfolding encode_with
low_digit t [] i lt = absurd (omega arith)
low_digit t (b ∷ rest) zero lt = refl
low_digit t (b ∷ rest) (suc i) lt =
    let two : 2 * suc i + 1 ≡ suc (suc (2 * i + 1)) = omega arith in
    rw two (low_digit t rest i (omega arith))

-- the text of a digest has 64 digits
pub length-hash_text : (hash : Hash) → IsHash hash → length (hash_text hash) ≡ 64
length-hash_text hash is =
    let len = length-encode_with lower_digits hash.bytes in
    let size = is.size in
    omega (arith, len, size)

-- the number of a digit, if it is one of the sixteen
abbrev pub IsNumberOf : ℕ → ℕ → Type 0
IsNumberOf digit result = (n : ℕ) → n < 16 → digit ≡ slice_index lower_digits n → result ≡ n

-- two digits more give one byte more of the digest
pub byte_read : (hash : Hash) → IsHash hash → (digits bytes : List ℕ) (place high low : ℕ) → place < 32 → length bytes ≡ 32
    → IsNumberOf (slice_index digits (2 * place)) high → IsNumberOf (slice_index digits (2 * place + 1)) low → digits ≡ hash_text hash
    → take place bytes ≡ take place hash.bytes
    → take (place + 1) (slice_set bytes place (high * 16 + low)) ≡ take (place + 1) hash.bytes
byte_read hash is digits bytes place high low below len is_high is_low same front =
    let size = is.size in
    let within : place < length hash.bytes = omega (arith, size) in
    let byte : ℕ = slice_index hash.bytes place in
    let fits : byte < 256 = is.bytes place in
    let h : high ≡ byte / 16 = is_high (byte / 16) (omega arith) (ap (λ l. slice_index l (2 * place)) same ∙ high_digit lower_digits hash.bytes place within) in
    let l : low ≡ byte % 16 = is_low (byte % 16) (omega arith) (ap (λ l. slice_index l (2 * place + 1)) same ∙ low_digit lower_digits hash.bytes place within) in
    let value : high * 16 + low ≡ byte = omega (arith, h, l) in
    take_more_set bytes place (high * 16 + low) (omega (arith, len))
    ∙ (λ k. front k ++ value k ∷ [])
    ∙ sym (take_more hash.bytes place 0 within)

-- all bytes of the digest are read
pub all_read : (hash : Hash) → IsHash hash → (bytes : List ℕ) (place : ℕ) → 32 ≤ place → length bytes ≡ 32
    → take place bytes ≡ take place hash.bytes → ◌≡◌ {A = Hash} (record { bytes = bytes }) hash
all_read hash is bytes place end len front =
    let size = is.size in
    let same : bytes ≡ hash.bytes =
    sym (take_all place bytes (omega (arith, len, end))) ∙ front ∙ take_all place hash.bytes (omega (arith, size, end)) in
    ap (λ l. record { bytes = l }) same
