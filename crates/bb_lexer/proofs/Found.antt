-- Whether a byte of a set is found.
use Rattle.std.proofs.Common.{◌≡◌, ℕ, suc, ◌+◌, Bool, true, false, ◌||◌, ◌==◌, nat_lt, cond, List, [], ◌∷◌, length, refl, sym, ◌∙◌, Some, None, is_some, position, codes, arith}
use Rattle.std.proofs.Math.Path.{fun_ext}
use Rattle.std.proofs.lemmas.Bool.{eqb-true, eq-eqb, ltb-true, lt-ltb}
use Rattle.std.specs.List.{list_any, position_or_len}
use Rattle.meta_model.specs.Text.{equals, is_quote, is_one_of}

-- two tests that pass alike are one
same_test : (a b : Bool) → (a ≡ true → b ≡ true) → (b ≡ true → a ≡ true) → a ≡ b
same_test true b f g = sym (f refl)
same_test false true f g = g refl
same_test false false f g = refl

below_suc : (m n : ℕ) → nat_lt (1 + m) (suc n) ≡ nat_lt m n
below_suc m n = same_test (nat_lt (1 + m) (suc n)) (nat_lt m n) (λ e. lt-ltb m n (omega (arith, ltb-true (1 + m) (suc n) e))) (λ e. lt-ltb (1 + m) (suc n) (omega (arith, ltb-true m n e)))

inside_at : (p : ℕ → Bool) (x : ℕ) (xs : List ℕ) (b : Bool) → p x ≡ b → nat_lt (position_or_len p xs) (length xs) ≡ list_any p xs → nat_lt (position_or_len p (x ∷ xs)) (suc (length xs)) ≡ list_any p (x ∷ xs)
inside_at p x xs true e h = rw e (lt-ltb 0 (suc (length xs)) (omega arith))
inside_at p x xs false e h = rw e (below_suc (position_or_len p xs) (length xs) ∙ h)

-- the first place lies in the list where an element passes
inside : (p : ℕ → Bool) (xs : List ℕ) → nat_lt (position_or_len p xs) (length xs) ≡ list_any p xs
inside p [] = refl
inside p (x ∷ xs) = inside_at p x xs (p x) refl (inside p xs)

some_of_cond : (b : Bool) (n : ℕ) → is_some (cond b (Some n) None) ≡ b
some_of_cond true n = refl
some_of_cond false n = refl

-- a place is found where an element passes
pub found_any : (p : ℕ → Bool) (xs : List ℕ) → is_some (position p xs) ≡ list_any p xs
found_any p xs = some_of_cond (nat_lt (position_or_len p xs) (length xs)) (position_or_len p xs) ∙ inside p xs

-- the order of an equation's sides doesn't matter to its test
eqb_swap : (m n : ℕ) → (m == n) ≡ (n == m)
eqb_swap m n = same_test (m == n) (n == m) (λ e. eq-eqb n m (sym (eqb-true m n e))) (λ e. eq-eqb m n (sym (eqb-true n m e)))

one_of_three : (a b c : Bool) → (a || (b || (c || false))) ≡ (a || (b || c))
one_of_three true b c = refl
one_of_three false true c = refl
one_of_three false false true = refl
one_of_three false false false = refl

-- the set of `=` and the quotes
pub sign_set : is_one_of (codes "=\"'") ≡ (λ c. c == equals || is_quote c)
sign_set = fun_ext (λ c. rw (eqb_swap c 61, eqb_swap c 34, eqb_swap c 39) (one_of_three (61 == c) (34 == c) (39 == c)))
