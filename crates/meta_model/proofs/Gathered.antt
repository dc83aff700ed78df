-- A list that is gathered item by item.
use Rattle.std.proofs.Common.{◌≡◌, refl, ap, arith, ℕ, zero, suc, ◌+◌, ◌<◌, List, [], ◌∷◌, ◌++◌, length, take, get_or, Option, Some, None, add-one}
use Rattle.std.specs.Option.{option_to_list}
use Rattle.std.specs.List.{filter_map}

module _ {A B : Type 0} (f : A → Option B) where
  gathered_suc : (xs : List A) (i : ℕ) (d : A) → i < length xs → filter_map f (take (suc i) xs) ≡ filter_map f (take i xs) ++ option_to_list (f (get_or xs i d))
  gathered_suc [] i d lt = absurd (omega arith)
  gathered_suc (x ∷ xs) zero d lt = by (f x) refl
    where
      by : (o : Option B) → f x ≡ o → filter_map f (x ∷ []) ≡ option_to_list (f x)
      by None e = simp e
      by (Some y) e = simp e
  gathered_suc (x ∷ xs) (suc i) d lt = by (f x) refl (gathered_suc xs i d (omega arith))
    where
      by : (o : Option B) → f x ≡ o → filter_map f (take (suc i) xs) ≡ filter_map f (take i xs) ++ option_to_list (f (get_or xs i d)) → filter_map f (x ∷ take (suc i) xs) ≡ filter_map f (x ∷ take i xs) ++ option_to_list (f (get_or xs i d))
      by None e more = simp e more
      by (Some y) e more = simp e (ap (λ l. y ∷ l) more)

  -- what is gathered of one item more
  pub gathered : (xs : List A) (i : ℕ) (d : A) → i < length xs → filter_map f (take (i + 1) xs) ≡ filter_map f (take i xs) ++ option_to_list (f (get_or xs i d))
  gathered xs i d lt = rw add-one (gathered_suc xs i d lt)
