-- What is framed at the front of bytes.
use Rattle.std.proofs.Common.{◌≡◌, ◌≢◌, ◌∙◌, sym, ap, subst, ℕ, ◌+◌, ◌-◌, ◌<◌, ◌≤◌, ◌^◌, ◌⊎◌, inl, inr, List, [], ◌∷◌, ◌++◌, length, get_or, drop, take, map, append_assoc, arith, length-append, lit<, lit≤}
use Rattle.std.specs.Prelude.{codes}
use Rattle.std.specs.List.{AllByRecursion}
use Rattle.std.specs.Fmt.{decimal}
use Rattle.std.specs.Int.Digits.{digits_of}
use Rattle.std.proofs.lemmas.Fmt.{decimal-digits_of, decimal_digit}
use Rattle.sig_gen.proofs.Numbers.{two_digits}
use Rattle.store_model.specs.Spelling.{dep_bytes, file_bytes, key_line_bytes, listed}
use Rattle.std.proofs.lemmas.Int.Digits.{all_below_base_digits_of}
use Rattle.std.proofs.lemmas.List.{get_or_append_left}
use Rattle.std.proofs.lemmas.List.Elements.{All-from_recursion}
use Rattle.std.proofs.Math.Seq.{drop-append_seam, get_or-append_seam, take-append_seam}
use Rattle.tree_model.specs.Bytes.{framed, manifest_bytes}
use Rattle.tree_model.specs.Hash.{hash_text}
use Rattle.store_model.specs.declared.signature.StoredSig.{StoredSig}
use Rattle.store_move.specs.First.{SpellsFirst, first_bytes, first_name, first_record}
use Rattle.sha2.specs.Sha256.{sha256}
use Rattle.tree_model.specs.declared.hash.Hash.{Hash}
use Rattle.store_model.specs.declared.signature.SigRecord.{SigRecord}
use Rattle.store_opening.proofs.Clean.{hash_is_name, name_text_length}
use Rattle.store_opening.proofs.Hexed.{ways}

no_colon : (n : ℕ) → 0 < n → n < 2 ^ 64 → (k : ℕ) → k < length (decimal n) → get_or (decimal n) k 0 ≢ 58
no_colon n more few k lt is =
    let small : AllByRecursion (λ c. c < 58) (decimal n) = subst (AllByRecursion (λ c. c < 58)) (sym (decimal-digits_of n more few)) (shifted (digits_of 10 n) (all_below_base_digits_of 10 n (omega arith))) in
    let below = All-from_recursion (λ c. c < 58) (decimal n) small k 0 lt in
    omega (arith, below, is)
  where
    shifted : (ds : List ℕ) → AllByRecursion (λ d. d < 10) ds → AllByRecursion (λ c. c < 58) (map (λ d. 48 + d) ds)
    shifted [] all = tt
    shifted (d ∷ ds) all = ((let lt = all.0 in omega (arith, lt)), shifted ds all.1)

split : (text tail : List ℕ) → framed text ++ tail ≡ decimal (length text) ++ 58 ∷ (text ++ 44 ∷ tail)
split text tail = append_assoc (decimal (length text)) (58 ∷ (text ++ 44 ∷ [])) tail ∙ ap (λ (l : List ℕ). decimal (length text) ++ 58 ∷ l) (append_assoc text (44 ∷ []) tail)

pub colon_at : (bytes text tail : List ℕ) (k : ℕ) → bytes ≡ framed text ++ tail → 0 < length text → length text < 2 ^ 64 → k ≤ length bytes → ((j : ℕ) → j < k → get_or bytes j 0 ≡ 58 → ⊥) → (k < length bytes → get_or bytes k 0 ≡ 58) → k ≡ length (decimal (length text))
colon_at bytes text tail k is more few within before found = by (ways k (length D))
  where
    D : List ℕ
    D = decimal (length text)

    whole : bytes ≡ D ++ 58 ∷ (text ++ 44 ∷ tail)
    whole = is ∙ split text tail

    colon : get_or bytes (length D) 0 ≡ 58
    colon = ap (λ (l : List ℕ). get_or l (length D) 0) whole ∙ get_or-append_seam D 58 (text ++ 44 ∷ tail) 0

    long : length bytes ≡ length D + length (58 ∷ (text ++ 44 ∷ tail))
    long = ap length whole ∙ length-append D (58 ∷ (text ++ 44 ∷ tail))

    by : (k < length D) ⊎ ((k ≡ length D) ⊎ (length D < k)) → k ≡ length D
    by (inl lt) = absurd (no_colon (length text) more few k lt (sym (ap (λ (l : List ℕ). get_or l k 0) whole ∙ get_or_append_left D (58 ∷ (text ++ 44 ∷ tail)) 0 k lt) ∙ found (omega (arith, long, lt))))
    by (inr (inl same)) = same
    by (inr (inr gt)) = absurd (before (length D) gt colon)

pub framed_is : (bytes text tail : List ℕ) (k behind : ℕ) → bytes ≡ framed text ++ tail → length tail + 1 ≡ behind → k ≡ length (decimal (length text)) → take (length bytes - behind - (k + 1)) (drop (k + 1) bytes) ≡ text
framed_is bytes text tail k behind is long at =
    let D = decimal (length text) in
    let whole : bytes ≡ (D ++ 58 ∷ []) ++ (text ++ 44 ∷ tail) = is ∙ split text tail ∙ sym (append_assoc D (58 ∷ []) (text ++ 44 ∷ tail)) in
    let front : length (D ++ 58 ∷ []) ≡ k + 1 = omega (arith, at, length-append D (58 ∷ [])) in
    let dropped : drop (k + 1) bytes ≡ text ++ 44 ∷ tail = ap (λ (l : List ℕ). drop (k + 1) l) whole ∙ ap (λ (n : ℕ). drop n ((D ++ 58 ∷ []) ++ (text ++ 44 ∷ tail))) (sym front) ∙ drop-append_seam (D ++ 58 ∷ []) (text ++ 44 ∷ tail) in
    let count : length bytes - behind - (k + 1) ≡ length text = omega (arith, long, front, ap length whole, length-append (D ++ 58 ∷ []) (text ++ 44 ∷ tail), length-append text (44 ∷ tail)) in
    (λ i. take (count i) (dropped i)) ∙ take-append_seam text (44 ∷ tail)

-- there is room
pub room : (bytes text tail : List ℕ) (k behind : ℕ) → bytes ≡ framed text ++ tail → length tail + 1 ≡ behind → k ≡ length (decimal (length text)) → k + 1 + behind ≤ length bytes
room bytes text tail k behind is long at =
    let D = decimal (length text) in
    let whole : length bytes ≡ length D + length (58 ∷ (text ++ 44 ∷ tail)) = ap length (is ∙ split text tail) ∙ length-append D (58 ∷ (text ++ 44 ∷ tail)) in
    omega (arith, long, at, whole, length-append text (44 ∷ tail))

-- ---- of a record

pub behind_of : StoredSig → List ℕ
behind_of stored = manifest_bytes stored.manifest ++ framed (hash_text stored.unihash)

rec_word : framed (codes "bbrec1") ≡ codes "6:bbrec1,"
rec_word = ap (λ (d : List ℕ). d ++ (58 ∷ (codes "bbrec1" ++ 44 ∷ []))) (decimal_digit 6 (lit< tt))

sig_word : framed (codes "bbsig1") ≡ codes "6:bbsig1,"
sig_word = ap (λ (d : List ℕ). d ++ (58 ∷ (codes "bbsig1" ++ 44 ∷ []))) (decimal_digit 6 (lit< tt))

record_is : (bytes : List ℕ) (stored : StoredSig) → SpellsFirst bytes stored → bytes ≡ codes "6:bbrec1," ++ (framed (first_bytes stored.sig) ++ behind_of stored)
unfolding first_record behind_of
record_is bytes stored h = h.is ∙ ap (λ (w : List ℕ). w ++ (framed (first_bytes stored.sig) ++ (manifest_bytes stored.manifest ++ framed (hash_text stored.unihash)))) rec_word

nine : (xs ys : List ℕ) → codes "6:bbrec1," ++ xs ≡ codes "6:bbrec1," ++ ys → xs ≡ ys
nine xs ys e = cc

pub rest_is : (bytes rest : List ℕ) (stored : StoredSig) → SpellsFirst bytes stored → bytes ≡ codes "6:bbrec1," ++ rest → rest ≡ framed (first_bytes stored.sig) ++ behind_of stored
rest_is bytes rest stored h is = nine rest (framed (first_bytes stored.sig) ++ behind_of stored) (sym is ∙ record_is bytes stored h)

sixty_eight : (text : List ℕ) → length text ≡ 64 → length (framed text) ≡ 68
sixty_eight text long =
    let number : length (decimal (length text)) ≡ 2 = ap (λ (n : ℕ). length (decimal n)) long ∙ ap length (two_digits 64 (lit≤ tt) (lit< tt)) in
    omega (arith, number, long, length-append (decimal (length text)) (58 ∷ (text ++ 44 ∷ [])), length-append text (44 ∷ []))

pub behind_long : (bytes : List ℕ) (stored : StoredSig) (behind : ℕ) → SpellsFirst bytes stored → behind ≡ length (manifest_bytes stored.manifest) + 69 → length (behind_of stored) + 1 ≡ behind
unfolding behind_of
behind_long bytes stored behind h is =
    let tail = sixty_eight (hash_text stored.unihash) (name_text_length stored.unihash (hash_is_name stored.unihash h.unihash)) in
    omega (arith, is, tail, length-append (manifest_bytes stored.manifest) (framed (hash_text stored.unihash)))

pub text_long : (sig : SigRecord) → 0 < length (first_bytes sig)
unfolding first_bytes
text_long sig =
    let rest = framed sig.pn ++ (framed sig.task ++ (listed key_line_bytes sig.key.lines ++ (listed file_bytes sig.files ++ listed dep_bytes sig.deps))) in
    let e : length (framed (codes "bbsig1") ++ rest) ≡ length (codes "6:bbsig1," ++ rest) = ap (λ (w : List ℕ). length (w ++ rest)) sig_word in
    omega (arith, e)

pub text_by : (bytes rest result : List ℕ) (stored : StoredSig) (behind : ℕ) → SpellsFirst bytes stored → behind ≡ length (manifest_bytes stored.manifest) + 69 → bytes ≡ codes "6:bbrec1," ++ rest
    → ((text tail : List ℕ) → rest ≡ framed text ++ tail → length tail + 1 ≡ behind → 0 < length text → length text < 2 ^ 64 → result ≡ text) → result ≡ first_bytes stored.sig
text_by bytes rest result stored behind h is at says = says (first_bytes stored.sig) (behind_of stored) (rest_is bytes rest stored h at) (behind_long bytes stored behind h is) (text_long stored.sig) h.few

pub has_word : (bytes : List ℕ) (stored : StoredSig) → SpellsFirst bytes stored → ((rest : List ℕ) → bytes ≡ codes "6:bbrec1," ++ rest → ⊥) → ⊥
has_word bytes stored h never = never (framed (first_bytes stored.sig) ++ behind_of stored) (record_is bytes stored h)

pub first_named : (sig : SigRecord) (name : Hash) (text : List ℕ) → name.bytes ≡ sha256 text → text ≡ first_bytes sig → name ≡ first_name sig
unfolding first_name
first_named sig name text is same = λ i. record { bytes = (is ∙ ap sha256 same) i }
