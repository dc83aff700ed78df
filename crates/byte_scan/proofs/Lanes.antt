-- 32 bytes at a time.
use Rattle.std.proofs.Common.{◌≡◌, min, refl, sym, ◌∙◌, ap, arith, ℕ, suc, ◌+◌, ◌<◌, ◌==◌, Bool, true, false, not, cond, ◌||◌, ◌⊎◌, inl, inr, List, [], ◌∷◌, length, take, get_or, add-one, position}
use Rattle.std.specs.List.{list_any, position_or_len}
use Rattle.std.proofs.Math.Nat.{min-zero, zero-min, suc-min-suc}
use Rattle.std.proofs.Math.Seq.{take-suc}
use Rattle.std.proofs.lemmas.Bool.{eqb-true, eqb-false, eq-eqb, ne_eqb}
use Rattle.std.proofs.lemmas.List.Folds.{list_any-append}

pub either : (b : Bool) → (b ≡ true) ⊎ (b ≡ false)
either true = inl refl
either false = inr refl

or_none : (z : Bool) → (z || false) ≡ z
or_none true = refl
or_none false = refl

-- equality of bytes goes both ways
pub turned : (x y : ℕ) → (x == y) ≡ (y == x)
turned x y = elim (either (x == y)) [
  | inl t ↦ t ∙ sym (eq-eqb y x (sym (eqb-true x y t)))
  | inr f ↦ f ∙ sym (ne_eqb y x (λ e. eqb-false x y f (sym e)))
]

-- the only byte of a set
pub one_byte : (hay : List ℕ) (byte : ℕ) → position (λ b. list_any (λ c. c == b) (byte ∷ [])) hay ≡ position (λ b. b == byte) hay
one_byte hay byte = ap (λ p. position p hay) (λ j. λ b. (or_none (byte == b) ∙ turned byte b) j)

-- the first of two kinds

one_more : (n : ℕ) → 1 + n ≡ suc n
one_more n = omega arith

one_of_two : (a b : Bool) (m n k : ℕ) → min m n ≡ k → min (cond (not a) (1 + m) 0) (cond (not b) (1 + n) 0) ≡ cond (not (a || b)) (1 + k) 0
one_of_two true true m n k e = refl
one_of_two true false m n k e = zero-min (1 + n)
one_of_two false true m n k e = min-zero (1 + m)
one_of_two false false m n k e = rw (one_more m, one_more n, one_more k) (suc-min-suc m n ∙ ap suc e)

first_of_two : (p q : ℕ → Bool) (xs : List ℕ) → min (position_or_len p xs) (position_or_len q xs) ≡ position_or_len (λ x. p x || q x) xs
first_of_two p q [] = refl
first_of_two p q (x ∷ xs) = one_of_two (p x) (q x) (position_or_len p xs) (position_or_len q xs) (position_or_len (λ x. p x || q x) xs) (first_of_two p q xs)

pub none_yet : (xs : List ℕ) → position_or_len (λ x. false) xs ≡ length xs
none_yet [] = refl
none_yet (x ∷ xs) = let e = none_yet xs in omega (arith, e)

any_more : (set : List ℕ) (i b : ℕ) → i < length set → list_any (λ c. c == b) (take (suc i) set) ≡ (list_any (λ c. c == b) (take i set) || (get_or set i 0 == b))
any_more set i b lt = ap (list_any (λ c. c == b)) (take-suc set i 0 lt) ∙ list_any-append (λ c. c == b) (take i set) (get_or set i 0 ∷ []) ∙ ap (λ z. list_any (λ c. c == b) (take i set) || z) (or_none (get_or set i 0 == b))

-- one byte of the set more
pub set_more : (lanes set : List ℕ) (i : ℕ) → i < length set → min (position_or_len (λ b. list_any (λ c. c == b) (take i set)) lanes) (position_or_len (λ b. get_or set i 0 == b) lanes) ≡ position_or_len (λ b. list_any (λ c. c == b) (take (i + 1) set)) lanes
set_more lanes set i lt =
    first_of_two (λ b. list_any (λ c. c == b) (take i set)) (λ b. get_or set i 0 == b) lanes
    ∙ ap (λ p. position_or_len p lanes) (λ j. λ b. sym (any_more set i b lt) j)
    ∙ ap (λ n. position_or_len (λ b. list_any (λ c. c == b) (take n set)) lanes) (sym (add-one i))
