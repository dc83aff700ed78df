-- Two ordered lists with the same members are one.
use Rattle.std.proofs.Common.{◌≡◌, sym, refl, subst, ℕ, zero, suc, ◌<◌, arith, List, [], ◌∷◌, Some, slice_get}
use Rattle.std.specs.List.{AllByRecursion}

-- each item stands before those behind it
abbrev pub IsOrdered : {X : Type 0} → (X → X → Type 0) → List X → Type 0
IsOrdered R [] = Unit {0}
IsOrdered R (x ∷ xs) = AllByRecursion (R x) xs × IsOrdered R xs

-- the item stands somewhere in the list
abbrev pub Has : {X : Type 0} → List X → X → Type 0
Has xs x = (k : ℕ) × (slice_get xs k ≡ Some x)

module _ {X : Type 0} (R : X → X → Type 0) where
  behind_from : (xs : List X) (x : X) → ((j : ℕ) (y : X) → slice_get xs j ≡ Some y → R x y) → AllByRecursion (R x) xs
  behind_from [] x h = tt
  behind_from (y ∷ ys) x h = (h zero y refl, behind_from ys x (λ j z e. h (suc j) z e))

  behind_at : (xs : List X) (x : X) → AllByRecursion (R x) xs → (j : ℕ) (y : X) → slice_get xs j ≡ Some y → R x y
  behind_at [] x h j y e = absurd (cc)
  behind_at (z ∷ zs) x h zero y e = let same : z ≡ y = cc in subst (R x) same h.0
  behind_at (z ∷ zs) x h (suc j) y e = behind_at zs x h.1 j y e

  -- a list whose items stand in order, by their places
  pub ordered_from : (xs : List X) → ((i j : ℕ) (x y : X) → i < j → slice_get xs i ≡ Some x → slice_get xs j ≡ Some y → R x y) → IsOrdered R xs
  ordered_from [] h = tt
  ordered_from (x ∷ xs) h =
      (behind_from xs x (λ j y e. h zero (suc j) x y (omega arith) refl e), ordered_from xs (λ i j a b lt e f. h (suc i) (suc j) a b (omega (arith, lt)) e f))

  module _ (strict : (x y : X) → R x y → R y x → ⊥) where
    same_first : (x y : X) (xs ys : List X) → IsOrdered R (x ∷ xs) → IsOrdered R (y ∷ ys) → Has (y ∷ ys) x → Has (x ∷ xs) y → x ≡ y
    same_first x y xs ys p q (zero, e) b = let same : y ≡ x = cc in sym same
    same_first x y xs ys p q (suc j, e) (zero, f) = cc
    same_first x y xs ys p q (suc j, e) (suc i, f) = absurd (strict x y (behind_at xs x p.0 i y f) (behind_at ys y q.0 j x e))

    not_again : (x : X) (xs : List X) → IsOrdered R (x ∷ xs) → (j : ℕ) → slice_get xs j ≡ Some x → ⊥
    not_again x xs p j e = let r = behind_at xs x p.0 j x e in strict x x r r

    behind_first : (x y : X) (xs ys : List X) → IsOrdered R (x ∷ xs) → x ≡ y → ((z : X) → Has (x ∷ xs) z → Has (y ∷ ys) z) → (z : X) → Has xs z → Has ys z
    behind_first x y xs ys p same to z (k, e) = by (to z (suc k, e))
      where
        by : Has (y ∷ ys) z → Has ys z
        by (zero, f) = let again : slice_get xs k ≡ Some x = cc in absurd (not_again x xs p k again)
        by (suc j, f) = (j, f)

    -- ordered lists that have the same items are equal
    pub ordered_once : (xs ys : List X) → IsOrdered R xs → IsOrdered R ys → ((z : X) → Has xs z → Has ys z) → ((z : X) → Has ys z → Has xs z) → xs ≡ ys
    ordered_once [] [] p q to back = refl
    ordered_once [] (y ∷ ys) p q to back = let h = back y (zero, refl) in absurd (nothing h)
      where
        nothing : Has [] y → ⊥
        nothing (k, e) = cc
    ordered_once (x ∷ xs) [] p q to back = let h = to x (zero, refl) in absurd (nothing h)
      where
        nothing : Has [] x → ⊥
        nothing (k, e) = cc
    ordered_once (x ∷ xs) (y ∷ ys) p q to back =
        let same = same_first x y xs ys p q (to x (zero, refl)) (back y (zero, refl)) in
        let rest = ordered_once xs ys p.1 q.1 (behind_first x y xs ys p same to) (behind_first y x ys xs q (sym same) back) in
        λ i. same i ∷ rest i
