-- A number that a text may write.
use Rattle.std.proofs.Common.{◌≡◌, sym, ◌∙◌, ap, arith, ℕ, ◌+◌, ◌<◌, ◌≤◌, true, false, List, bytes_eq, ◌⊎◌, inl, inr}
use Rattle.std.specs.Prelude.{decimal}
use Rattle.std.specs.Cmp.Lexicographic.{bytes_decides}
use Rattle.std.proofs.lemmas.Bool.{cases_eq}

-- no number so far has these digits
pub digits_more : (text digits : List ℕ) (told : List ℕ) (n : ℕ) → told ≡ decimal n → bytes_eq told digits ≡ false → digits ≡ text → ((k : ℕ) → 1 ≤ k → k < n → text ≡ decimal k → ⊥)
    → (k : ℕ) → 1 ≤ k → k < n + 1 → text ≡ decimal k → ⊥
digits_more text digits told n is differs same before k least below e = by_place (cases_eq k n)
  where
    by_place : (k ≡ n) ⊎ (k ≡ n → ⊥) → ⊥
    by_place (inl here) =
        let alike : told ≡ digits = is ∙ sym (ap decimal here) ∙ sym e ∙ sym same in
        let f : true ≡ false = sym ((bytes_decides told digits).1 alike) ∙ differs in cc
    by_place (inr front) = before k least (omega (arith, below, front)) e
