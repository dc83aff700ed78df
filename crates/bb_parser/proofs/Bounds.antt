-- Characters that the rules name are ASCII.
use Rattle.std.proofs.Common.{◌≡◌, ℕ, ◌<◌, Bool, true, false, ◌||◌, ◌==◌, List, [], ◌∷◌, nat_lt, refl, arith, sym}
use Rattle.std.proofs.lemmas.Bool.{eqb-true, and_parts}
use Rattle.std.specs.List.{list_all}
use Rattle.std.specs.Char.{is_ascii_alphanumeric}
use Rattle.std.proofs.lemmas.Bool.Decides.{nat_tests}
use Rattle.meta_model.specs.Text.{is_one_of, is_letter_digit_or}

-- one of two tests holds
pub one_of_two : {P : Type 0} (a b : Bool) → a || b ≡ true → (a ≡ true → P) → (b ≡ true → P) → P
one_of_two true b e f g = f refl
one_of_two false b e f g = g e

alphanumeric-ascii : (c : ℕ) → is_ascii_alphanumeric c ≡ true → c < 128
alphanumeric-ascii c e = grind (arith, nat_tests)

one_of-ascii : (cs : List ℕ) (c : ℕ) → list_all (λ d. nat_lt d 128) cs ≡ true → is_one_of cs c ≡ true → c < 128
one_of-ascii [] c h e = cc
one_of-ascii (d ∷ cs) c h e = one_of_two (d == c) (is_one_of cs c) e
    (λ t. rw (sym (eqb-true d c t)) (below d ((and_parts (nat_lt d 128) (list_all (λ x. nat_lt x 128) cs) h).0)))
    (λ t. one_of-ascii cs c ((and_parts (nat_lt d 128) (list_all (λ x. nat_lt x 128) cs) h).1) t)
  where
    below : (n : ℕ) → nat_lt n 128 ≡ true → n < 128
    below n t = grind (arith, nat_tests)

pub letter_digit_or-ascii : (cs : List ℕ) (c : ℕ) → list_all (λ d. nat_lt d 128) cs ≡ true → is_letter_digit_or cs c ≡ true → c < 128
letter_digit_or-ascii cs c h e = one_of_two (is_ascii_alphanumeric c) (is_one_of cs c) e (alphanumeric-ascii c) (one_of-ascii cs c h)
