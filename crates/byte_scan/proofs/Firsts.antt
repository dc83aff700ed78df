-- The first place, block by block.
use Rattle.std.proofs.Common.{◌≡◌, refl, sym, ◌∙◌, ap, arith, ℕ, ◌+◌, ◌-◌, ◌<◌, ◌≤◌, Bool, true, false, cond, nat_lt, inl, inr, List, length, drop, get_or, Some, None, position}
use Rattle.std.specs.List.{position_or_len}
use Rattle.std.specs.Simd.Lanes.{chunk}
use Rattle.std.proofs.lemmas.Bool.{lt-ltb, le-ltb, ltb-true, ltb-false}
use Rattle.std.proofs.lemmas.List.Sums.{position_or_len_is, fails_before_first}
use Rattle.std.proofs.lemmas.List.Quantifiers.{position-Some}
use Rattle.std.proofs.lemmas.List.{get_or-drop, length-drop}
use Rattle.std.proofs.lemmas.Simd.{run_in_chunk_fails, run_in_chunk_stops}
use Rattle.byte_scan.proofs.Lanes.{either}

-- no byte up to a place passes
abbrev pub FreeTo : (ℕ → Bool) → List ℕ → ℕ → Type 0
FreeTo p hay n = (k : ℕ) → k < n → p (get_or hay k 0) ≡ false

found_at : (p : ℕ → Bool) (hay : List ℕ) (i : ℕ) → i < length hay → FreeTo p hay i → p (get_or hay i 0) ≡ true → position p hay ≡ Some i
found_at p hay i lt free is =
    let e : position_or_len p hay ≡ i = position_or_len_is p hay i 0 (omega (arith, lt)) free (λ _. is) in
    ap (λ n. cond (nat_lt n (length hay)) (Some n) None) e ∙ ap (λ b. cond b (Some i) None) (lt-ltb i (length hay) lt)

found_none : (p : ℕ → Bool) (hay : List ℕ) → FreeTo p hay (length hay) → position p hay ≡ None
found_none p hay free =
    let e : position_or_len p hay ≡ length hay = position_or_len_is p hay (length hay) 0 (omega arith) free (λ lt. absurd (omega (arith, lt))) in
    ap (λ n. cond (nat_lt n (length hay)) (Some n) None) e ∙ ap (λ b. cond b (Some (length hay)) None) (le-ltb (length hay) (length hay) (omega arith))

-- free to a place, and from there on
free_on : (p : ℕ → Bool) (hay : List ℕ) (at n : ℕ) → FreeTo p hay at → ((k : ℕ) → at ≤ k → k < n → p (get_or hay k 0) ≡ false) → FreeTo p hay n
free_on p hay at n free more k lt = elim (either (nat_lt k at)) [
  | inl t ↦ free k (ltb-true k at t)
  | inr f ↦ more k (ltb-false k at f) lt
]

-- a block that has one
pub in_block : (p : ℕ → Bool) (hay : List ℕ) (at r : ℕ) → at + 32 ≤ length hay → FreeTo p hay at → r ≡ position_or_len p (chunk at 32 hay) → r < 32 → Some (at + r) ≡ position p hay
in_block p hay at r room free is lt =
    sym (found_at p hay (at + r) (omega (arith, room, lt)) (free_on p hay at (at + r) free (run_in_chunk_fails p hay at 32 r 0 room is)) (run_in_chunk_stops p hay at 32 r 0 room is lt))

-- a block that has none
pub past_block : (p : ℕ → Bool) (hay : List ℕ) (at r : ℕ) → at + 32 ≤ length hay → FreeTo p hay at → r ≡ position_or_len p (chunk at 32 hay) → 32 ≤ r → FreeTo p hay (at + 32)
past_block p hay at r room free is past = free_on p hay at (at + 32) free (λ k l h. run_in_chunk_fails p hay at 32 r 0 room is k l (omega (arith, h, past)))

-- what is left behind the blocks

at_rest : (p : ℕ → Bool) (hay : List ℕ) (at k : ℕ) → at ≤ k → p (get_or (drop at hay) (k - at) 0) ≡ p (get_or hay k 0)
at_rest p hay at k le = ap p (get_or-drop at hay (k - at) 0) ∙ ap (λ j. p (get_or hay j 0)) (let e : at + (k - at) ≡ k = omega (arith, le) in e)

pub in_rest : (p : ℕ → Bool) (hay : List ℕ) (at i : ℕ) → at ≤ length hay → FreeTo p hay at → position p (drop at hay) ≡ Some i → Some (at + i) ≡ position p hay
in_rest p hay at i within free e =
    let h = position-Some p (drop at hay) i 0 e in
    let long : length (drop at hay) ≡ length hay - at = length-drop at hay in
    let lt : i < length (drop at hay) = h.0 in
    sym (found_at p hay (at + i) (omega (arith, within, long, lt)) (free_on p hay at (at + i) free (λ k l b. sym (at_rest p hay at k l) ∙ h.2 (k - at) (omega (arith, l, b)))) (ap p (sym (get_or-drop at hay i 0)) ∙ h.1))

none_of : (b : Bool) (n : ℕ) → cond b (Some n) None ≡ None → b ≡ false
none_of true n e = cc
none_of false n e = refl

pub none_in_rest : (p : ℕ → Bool) (hay : List ℕ) (at : ℕ) → at ≤ length hay → FreeTo p hay at → position p (drop at hay) ≡ None → None ≡ position p hay
none_in_rest p hay at within free e =
    let first = position_or_len p (drop at hay) in
    let past : length (drop at hay) ≤ first = ltb-false first (length (drop at hay)) (none_of (nat_lt first (length (drop at hay))) first e) in
    let long : length (drop at hay) ≡ length hay - at = length-drop at hay in
    sym (found_none p hay (free_on p hay at (length hay) free (λ k l b. sym (at_rest p hay at k l) ∙ fails_before_first p (drop at hay) (k - at) 0 (omega (arith, past, long, l, b)))))
