-- The texts of digests stand in the order of the digests.
use Rattle.std.proofs.Common.{◌≡◌, ◌∙◌, sym, ap, subst, refl, ℕ, zero, suc, ◌+◌, ◌/◌, ◌%◌, ◌<◌, ◌≤◌, ◌⊎◌, inl, inr, List, [], ◌∷◌, arith, lit<, length, mod-lt}
use Rattle.std.specs.Prelude.{Ok}
use Rattle.sha2.proofs.Facts256.{length-sha256}
use Rattle.hex.proofs.HexLemmas.{decode_sized-encode_lower}
use Rattle.tree_model.specs.Hash.{hash_text}
use Rattle.std.specs.Prelude.{slice_index}
use Rattle.std.specs.List.{AllByRecursion}
use Rattle.std.specs.Ordering.{nat_cmp, ordering_then}
use Rattle.std.specs.Cmp.{nat_cmp_is}
use Rattle.std.specs.Cmp.Lexicographic.{slice_cmp}
use Rattle.std.specs.declared.cmp.Ordering.{Ordering}
use Rattle.std.specs.declared.cmp.Ordering.TheVariants.{Less, Equal, Greater}
use Rattle.std.specs.Int.{to_be_bytes, w32}
use Rattle.sha2.specs.Sha256.{sha256, digest_bytes}
use Rattle.hex.specs.Hex.{IsBytes, decode_sized, encode_with, encode_lower, lower_digits}
use Rattle.store_model.specs.declared.signature.ShortSig.{ShortSig}
use Rattle.store_model.specs.declared.signature.SigRecord.{SigRecord}
use Rattle.store_model.specs.Spelling.{name_of, short_bytes, short_name, short_of}
use Rattle.store_model.proofs.Ordered.{each_append}
use Rattle.store_model.specs.Believed.{name_cmp}
use Rattle.store_model.specs.Paths.{record_path}

-- a name is the digest of its signature's short text
pub name_digest : (sig : SigRecord) → (name_of sig).bytes ≡ sha256 (short_bytes (short_of sig))
unfolding name_of
name_digest sig = refl

pub short_digest : (s : ShortSig) → (short_name s).bytes ≡ sha256 (short_bytes s)
unfolding short_name
short_digest s = refl

-- ... whether its key is told or named
pub name_is_short : (sig : SigRecord) → name_of sig ≡ short_name (short_of sig)
unfolding name_of short_name
name_is_short sig = refl

abbrev pub digit : ℕ → ℕ
digit a = slice_index lower_digits a

pub digit_is : (a : ℕ) → a < 16 → ((a < 10) × (digit a ≡ a + 48)) ⊎ ((10 ≤ a) × (digit a ≡ a + 87))
digit_is zero lt = inl (omega arith, refl)
digit_is (suc zero) lt = inl (omega arith, refl)
digit_is (suc (suc zero)) lt = inl (omega arith, refl)
digit_is (suc (suc (suc zero))) lt = inl (omega arith, refl)
digit_is (suc (suc (suc (suc zero)))) lt = inl (omega arith, refl)
digit_is (suc (suc (suc (suc (suc zero))))) lt = inl (omega arith, refl)
digit_is (suc (suc (suc (suc (suc (suc zero)))))) lt = inl (omega arith, refl)
digit_is (suc (suc (suc (suc (suc (suc (suc zero))))))) lt = inl (omega arith, refl)
digit_is (suc (suc (suc (suc (suc (suc (suc (suc zero)))))))) lt = inl (omega arith, refl)
digit_is (suc (suc (suc (suc (suc (suc (suc (suc (suc zero))))))))) lt = inl (omega arith, refl)
digit_is (suc (suc (suc (suc (suc (suc (suc (suc (suc (suc zero)))))))))) lt = inr (omega arith, refl)
digit_is (suc (suc (suc (suc (suc (suc (suc (suc (suc (suc (suc zero))))))))))) lt = inr (omega arith, refl)
digit_is (suc (suc (suc (suc (suc (suc (suc (suc (suc (suc (suc (suc zero)))))))))))) lt = inr (omega arith, refl)
digit_is (suc (suc (suc (suc (suc (suc (suc (suc (suc (suc (suc (suc (suc zero))))))))))))) lt = inr (omega arith, refl)
digit_is (suc (suc (suc (suc (suc (suc (suc (suc (suc (suc (suc (suc (suc (suc zero)))))))))))))) lt = inr (omega arith, refl)
digit_is (suc (suc (suc (suc (suc (suc (suc (suc (suc (suc (suc (suc (suc (suc (suc zero))))))))))))))) lt = inr (omega arith, refl)
digit_is (suc (suc (suc (suc (suc (suc (suc (suc (suc (suc (suc (suc (suc (suc (suc (suc x)))))))))))))))) lt = absurd (omega arith)

digit_mono : (a b : ℕ) → a < 16 → b < 16 → a < b → digit a < digit b
digit_mono a b la lb lt = by (digit_is a la) (digit_is b lb)
  where
    by : ((a < 10) × (digit a ≡ a + 48)) ⊎ ((10 ≤ a) × (digit a ≡ a + 87)) → ((b < 10) × (digit b ≡ b + 48)) ⊎ ((10 ≤ b) × (digit b ≡ b + 87)) → digit a < digit b
    by (inl p) (inl q) = let e = p.1 in let f = q.1 in omega (arith, e, f)
    by (inl p) (inr q) = let e = p.1 in let f = q.1 in let g = p.0 in omega (arith, e, f, g)
    by (inr p) (inl q) = let g = p.0 in let h = q.0 in absurd (omega (arith, g, h, lt))
    by (inr p) (inr q) = let e = p.1 in let f = q.1 in omega (arith, e, f)

less_is : (x y : ℕ) → x < y → nat_cmp x y ≡ Less
less_is x y lt = sym (nat_cmp_is x y Less lt)

equal_is : (x y : ℕ) → x ≡ y → nat_cmp x y ≡ Equal
equal_is x y e = sym (nat_cmp_is x y Equal e)

greater_is : (x y : ℕ) → y < x → nat_cmp x y ≡ Greater
greater_is x y gt = sym (nat_cmp_is x y Greater gt)

pub ways : (x y : ℕ) → (x < y) ⊎ ((x ≡ y) ⊎ (y < x))
ways zero zero = inr (inl refl)
ways zero (suc y) = inl (omega arith)
ways (suc x) zero = inr (inr (omega arith))
ways (suc x) (suc y) = by (ways x y)
  where
    by : (x < y) ⊎ ((x ≡ y) ⊎ (y < x)) → (suc x < suc y) ⊎ ((suc x ≡ suc y) ⊎ (suc y < suc x))
    by (inl lt) = inl (omega arith)
    by (inr (inl e)) = inr (inl (ap suc e))
    by (inr (inr gt)) = inr (inr (omega arith))

pub div_small : (x : ℕ) → x < 256 → x / 16 < 16
div_small x lt = omega arith

-- a greater byte has greater digits
greater_digits : (x y : ℕ) (rest : Ordering) → x < 256 → y < 256 → y < x → ordering_then (nat_cmp (digit (x / 16)) (digit (y / 16))) (ordering_then (nat_cmp (digit (x % 16)) (digit (y % 16))) rest) ≡ Greater
greater_digits x y rest lx ly gt = by (ways (x / 16) (y / 16))
  where
    by : (x / 16 < y / 16) ⊎ ((x / 16 ≡ y / 16) ⊎ (y / 16 < x / 16)) → ordering_then (nat_cmp (digit (x / 16)) (digit (y / 16))) (ordering_then (nat_cmp (digit (x % 16)) (digit (y % 16))) rest) ≡ Greater
    by (inl lt) = absurd (omega arith)
    by (inr (inl e)) =
        let low : y % 16 < x % 16 = omega arith in
        let ml : y % 16 < 16 = omega arith in
        let mx : x % 16 < 16 = omega arith in
        rw (equal_is (digit (x / 16)) (digit (y / 16)) (ap digit e), greater_is (digit (x % 16)) (digit (y % 16)) (digit_mono (y % 16) (x % 16) ml mx low)) refl
    by (inr (inr more)) = rw (greater_is (digit (x / 16)) (digit (y / 16)) (digit_mono (y / 16) (x / 16) (div_small y ly) (div_small x lx) more)) refl

not_less : Greater ≡ Less → ⊥
not_less e = cc

pub are_bytes : (xs : List ℕ) → AllByRecursion (λ b. b < 256) xs → IsBytes xs
are_bytes [] all i = lit< tt
are_bytes (x ∷ xs) all zero = all.0
are_bytes (x ∷ xs) all (suc i) = are_bytes xs all.1 i

-- texts in order are of bytes in order
pub hex_less : (xs ys : List ℕ) → AllByRecursion (λ b. b < 256) xs → AllByRecursion (λ b. b < 256) ys → slice_cmp nat_cmp (encode_lower xs) (encode_lower ys) ≡ Less → slice_cmp nat_cmp xs ys ≡ Less
unfolding encode_with
hex_less [] [] ax ay e = e
hex_less [] (y ∷ ys) ax ay e = refl
hex_less (x ∷ xs) [] ax ay e = absurd (not_less e)
hex_less (x ∷ xs) (y ∷ ys) ax ay e = by (ways x y) (hex_less xs ys ax.1 ay.1)
  where
    by : (x < y) ⊎ ((x ≡ y) ⊎ (y < x)) → (slice_cmp nat_cmp (encode_lower xs) (encode_lower ys) ≡ Less → slice_cmp nat_cmp xs ys ≡ Less) → ordering_then (nat_cmp x y) (slice_cmp nat_cmp xs ys) ≡ Less
    by (inl lt) more = rw (less_is x y lt) refl
    by (inr (inl same)) more =
        rw (equal_is x y same) (more (rw (equal_is (digit (x / 16)) (digit (y / 16)) (ap (λ n. digit (n / 16)) same), equal_is (digit (x % 16)) (digit (y % 16)) (ap (λ n. digit (n % 16)) same)) at e))
    by (inr (inr gt)) more = absurd (not_less (sym (greater_digits x y (slice_cmp nat_cmp (encode_lower xs) (encode_lower ys)) ax.0 ay.0 gt) ∙ e))

word_bytes : (n : ℕ) → AllByRecursion (λ b. b < 256) (to_be_bytes w32 n)
word_bytes n = (mod-lt _ (lit< tt), (mod-lt _ (lit< tt), (mod-lt _ (lit< tt), (mod-lt _ (lit< tt), tt))))

each_byte : (h : List ℕ) (n : ℕ) → AllByRecursion (λ b. b < 256) (digest_bytes h n)
unfolding digest_bytes
each_byte h zero = tt
each_byte h (suc n) = each_append (λ b. b < 256) (digest_bytes h n) (to_be_bytes w32 (slice_index h n)) (each_byte h n) (word_bytes (slice_index h n))

pub digest_bytes_are : (m : List ℕ) → AllByRecursion (λ b. b < 256) (sha256 m)
unfolding sha256
digest_bytes_are m = each_byte _ 8

pub name_bytes_are : (sig : SigRecord) → AllByRecursion (λ b. b < 256) (name_of sig).bytes
name_bytes_are sig = subst (AllByRecursion (λ b. b < 256)) (sym (name_digest sig)) (digest_bytes_are (short_bytes (short_of sig)))

pub short_bytes_are : (s : ShortSig) → AllByRecursion (λ b. b < 256) (short_name s).bytes
short_bytes_are s = subst (AllByRecursion (λ b. b < 256)) (sym (short_digest s)) (digest_bytes_are (short_bytes s))

-- records in order are of names in order
pub records_in_order : (a b : ShortSig) → slice_cmp nat_cmp (record_path (short_name a)) (record_path (short_name b)) ≡ Less → name_cmp (short_name a) (short_name b) ≡ Less
records_in_order a b e = hex_less (short_name a).bytes (short_name b).bytes (short_bytes_are a) (short_bytes_are b) e

-- names with one text are one
pub same_short_text : (a b : ShortSig) → hash_text (short_name a) ≡ hash_text (short_name b) → short_name a ≡ short_name b
same_short_text a b e =
    let read = sym (decoded a) ∙ ap (λ (t : List ℕ). decode_sized t 32) e ∙ decoded b in
    let bytes : (short_name a).bytes ≡ (short_name b).bytes = cc in
    λ i. record { bytes = bytes i }
  where
    decoded : (s : ShortSig) → decode_sized (hash_text (short_name s)) 32 ≡ Ok (short_name s).bytes
    decoded s = decode_sized-encode_lower (short_name s).bytes 32 (ap length (short_digest s) ∙ length-sha256 (short_bytes s)) (are_bytes (short_name s).bytes (short_bytes_are s))
