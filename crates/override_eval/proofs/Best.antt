-- The best of some forms.
use Rattle.std.proofs.Common.{◌≡◌, refl, sym, ◌∙◌, arith, ℕ, zero, suc, ◌+◌, ◌<◌, true, false, List, [], ◌∷◌, length, get_or, Option, Some, None, below_more, true≢false}
use Rattle.meta_model.specs.Overrides.{beats}
use Rattle.meta_model.proofs.Order.{beats_one_way, beats_through, beats_itself}
use Rattle.override_eval.specs.Winner.{parts, is_counted, IsBestOf}

-- a form that doesn't count changes nothing
pub keep_none : (active forms : List (List ℕ)) (n : ℕ) → IsBestOf active forms n None → is_counted active (get_or forms n []) ≡ false → IsBestOf active forms (n + 1) None
keep_none active forms n h e = below_more (λ k. is_counted active (get_or forms k []) ≡ false) n h e

pub keep_uncounted : (active forms : List (List ℕ)) (n i : ℕ) → IsBestOf active forms n (Some i) → is_counted active (get_or forms n []) ≡ false → IsBestOf active forms (n + 1) (Some i)
keep_uncounted active forms n i h e = (
  let l = h.0 in omega (arith, l),
  h.1,
  below_more (λ k. is_counted active (get_or forms k []) ≡ true → beats active (parts (get_or forms k [])) (parts (get_or forms i [])) ≡ false) n h.2 (λ t. absurd (true≢false (sym t ∙ e))),
)

-- nor does one that doesn't beat the best
pub keep_best : (active forms : List (List ℕ)) (n i : ℕ) → IsBestOf active forms n (Some i) → beats active (parts (get_or forms n [])) (parts (get_or forms i [])) ≡ false → IsBestOf active forms (n + 1) (Some i)
keep_best active forms n i h e = (
  let l = h.0 in omega (arith, l),
  h.1,
  below_more (λ k. is_counted active (get_or forms k []) ≡ true → beats active (parts (get_or forms k [])) (parts (get_or forms i [])) ≡ false) n h.2 (λ t. e),
)

-- the first that counts
pub take_first : (active forms : List (List ℕ)) (n : ℕ) → IsBestOf active forms n None → is_counted active (get_or forms n []) ≡ true → IsBestOf active forms (n + 1) (Some n)
take_first active forms n h e = (
  omega arith,
  e,
  below_more (λ k. is_counted active (get_or forms k []) ≡ true → beats active (parts (get_or forms k [])) (parts (get_or forms n [])) ≡ false) n
      (λ k l t. absurd (true≢false (sym t ∙ h k l))) (λ t. beats_itself active (parts (get_or forms n []))),
)

-- one that beats the best
pub take_better : (active forms : List (List ℕ)) (n i : ℕ) → IsBestOf active forms n (Some i) → is_counted active (get_or forms n []) ≡ true → beats active (parts (get_or forms n [])) (parts (get_or forms i [])) ≡ true → IsBestOf active forms (n + 1) (Some n)
take_better active forms n i h e b = (
  omega arith,
  e,
  below_more (λ k. is_counted active (get_or forms k []) ≡ true → beats active (parts (get_or forms k [])) (parts (get_or forms n [])) ≡ false) n
      (λ k l t. beats_through active (parts (get_or forms k [])) (parts (get_or forms i [])) (parts (get_or forms n [])) (h.2 k l t) (beats_one_way active (parts (get_or forms n [])) (parts (get_or forms i [])) b))
      (λ t. beats_itself active (parts (get_or forms n []))),
)

pub keep_any : (active forms : List (List ℕ)) (n : ℕ) (best : Option ℕ) → IsBestOf active forms n best → is_counted active (get_or forms n []) ≡ false → IsBestOf active forms (n + 1) best
keep_any active forms n None h e = keep_none active forms n h e
keep_any active forms n (Some i) h e = keep_uncounted active forms n i h e

-- within a list it doesn't matter what would stand behind it
pub get_same : (xs : List (List ℕ)) (i : ℕ) (d e : List ℕ) → i < length xs → get_or xs i d ≡ get_or xs i e
get_same [] i d e h = absurd (omega arith)
get_same (x ∷ xs) zero d e h = refl
get_same (x ∷ xs) (suc i) d e h = get_same xs i d e (omega arith)
