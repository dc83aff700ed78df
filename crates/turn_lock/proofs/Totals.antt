-- Sums over a list, and lists of which one element changes.
use Rattle.std.proofs.Common.{◌≡◌, ◌≢◌, ℕ, zero, suc, ◌+◌, ◌<◌, ◌≤◌, Bool, true, false, List, [], ◌∷◌, ◌++◌, length, set, get_or, refl, sym, ap, subst, ⊎_elim, arith}
use mathlib.Core.Option.{some, some-ne-none, some-injective}
use lib.ListN.{get_elem?}
use Rattle.atomic_table.proofs.Lists.{at_set, at_snoc}
use Rattle.turn_lock.specs.Totals.{once, total}

-- a test counts at most once
pub once_le : (b : Bool) → once b ≤ 1
once_le true = omega arith
once_le false = omega arith

-- a place that has an element lies in the list
pub in_bounds : {A : Type 0} (l : List A) (i : ℕ) (a : A) → get_elem? l i ≡ some a → i < length l
in_bounds [] i a e = absurd (some-ne-none a (sym e))
in_bounds (x ∷ xs) zero a e = omega arith
in_bounds (x ∷ xs) (suc i) a e = let h = in_bounds xs i a e in omega arith

-- what holds of the new element, and of the others, holds of each
pub each_set : {A : Type 0} (P : A → Type 0) (l : List A) (i : ℕ) (b : A) → P b → ((j : ℕ) (a : A) → j ≢ i → get_elem? l j ≡ some a → P a) → (j : ℕ) (a : A) → get_elem? (set l i b) j ≡ some a → P a
each_set P l i b new others j a e = ⊎_elim (λ (x : (j ≡ i) × (b ≡ a)). subst P x.1 new) (λ (x : (j ≢ i) × (get_elem? l j ≡ some a)). others j a x.0 x.1) (at_set l i j b a e)

-- what holds of each element, and of one more, holds of each
pub each_snoc : {A : Type 0} (P : A → Type 0) (l : List A) (b : A) → ((j : ℕ) (a : A) → get_elem? l j ≡ some a → P a) → P b → (j : ℕ) (a : A) → get_elem? (l ++ b ∷ []) j ≡ some a → P a
each_snoc P l b others new j a e = ⊎_elim (others j a) (λ (x : b ≡ a). subst P x new) (at_snoc l b a j e)

module _ {A : Type 0} (f : A → ℕ) where
  -- one element changes, and the sum by as much
  pub total-set : (l : List A) (i : ℕ) (a b : A) → get_elem? l i ≡ some a → total f (set l i b) + f a ≡ total f l + f b
  total-set [] i a b e = absurd (some-ne-none a (sym e))
  total-set (x ∷ xs) zero a b e = let h : f x ≡ f a = ap f (some-injective x a e) in omega arith
  total-set (x ∷ xs) (suc i) a b e = let h = total-set xs i a b e in omega arith

  -- one element changes, and weighs the same
  pub total-same : (l : List A) (i : ℕ) (a b : A) → get_elem? l i ≡ some a → f b ≡ f a → total f (set l i b) ≡ total f l
  total-same l i a b e same = let h = total-set l i a b e in omega arith

  -- one element more
  pub total-snoc : (l : List A) (a : A) → total f (l ++ a ∷ []) ≡ total f l + f a
  total-snoc [] a = omega arith
  total-snoc (x ∷ xs) a = let h = total-snoc xs a in omega arith

  -- the sum over two lists
  pub total-append : (xs ys : List A) → total f (xs ++ ys) ≡ total f xs + total f ys
  total-append [] ys = omega arith
  total-append (x ∷ xs) ys = let h = total-append xs ys in omega arith

  -- an element weighs no more than all
  pub total-at : (l : List A) (i : ℕ) (a : A) → get_elem? l i ≡ some a → f a ≤ total f l
  total-at [] i a e = absurd (some-ne-none a (sym e))
  total-at (x ∷ xs) zero a e = let h : f x ≡ f a = ap f (some-injective x a e) in omega arith
  total-at (x ∷ xs) (suc i) a e = let h = total-at xs i a e in omega arith

  -- nor do two of them
  pub total-two : (l : List A) (i j : ℕ) (a b : A) → get_elem? l i ≡ some a → get_elem? l j ≡ some b → i ≢ j → f a + f b ≤ total f l
  total-two [] i j a b e e' n = absurd (some-ne-none a (sym e))
  total-two (x ∷ xs) zero zero a b e e' n = absurd (n refl)
  total-two (x ∷ xs) zero (suc j) a b e e' n = let h : f x ≡ f a = ap f (some-injective x a e) in let k = total-at xs j b e' in omega arith
  total-two (x ∷ xs) (suc i) zero a b e e' n = let h : f x ≡ f b = ap f (some-injective x b e') in let k = total-at xs i a e in omega arith
  total-two (x ∷ xs) (suc i) (suc j) a b e e' n = let h = total-two xs i j a b e e' (λ m. n (ap suc m)) in omega arith

  -- a sum of ones is no more than the length
  pub total-few : (l : List A) → ((a : A) → f a ≤ 1) → total f l ≤ length l
  total-few [] h = omega arith
  total-few (x ∷ xs) h = let a = h x in let b = total-few xs h in omega arith

  -- where the sum is 0, each element weighs 0
  pub total-zero : (l : List A) → total f l ≡ 0 → (k : ℕ) (d : A) → k < length l → f (get_or l k d) ≡ 0
  total-zero [] z k d b = absurd (omega arith)
  total-zero (x ∷ xs) z zero d b = omega arith
  total-zero (x ∷ xs) z (suc k) d b = total-zero xs (omega arith) k d (omega arith)
