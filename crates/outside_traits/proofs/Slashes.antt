-- The slashes of the front of a text.
use Rattle.std.proofs.Common.{◌≡◌, ◌≢◌, ◌<◌, ◌≤◌, ◌+◌, ◌==◌, ℕ, zero, suc, Bool, true, false, List, [], ◌∷◌, length, get_or, take, refl, arith}
use Rattle.outside_traits.specs.Store.{slashes}

one_slash_at : (xs : List ℕ) (n : ℕ) → n < length xs → get_or xs n 0 ≡ 47 → slashes (take (suc n) xs) ≡ suc (slashes (take n xs))
one_slash_at [] n lt is = absurd (omega (arith, lt))
one_slash_at (x ∷ xs) zero lt is = rw is refl
one_slash_at (x ∷ xs) (suc n) lt is = by (x == 47) refl (one_slash_at xs n (omega (arith, lt)) is)
  where
    by : (b : Bool) → (x == 47) ≡ b → slashes (take (suc n) xs) ≡ suc (slashes (take n xs)) → slashes (x ∷ take (suc n) xs) ≡ suc (slashes (x ∷ take n xs))
    by true is_slash rest = rw is_slash (omega (arith, rest))
    by false isnt rest = rw isnt rest

more_slashes_at : (xs : List ℕ) (n : ℕ) → slashes (take n xs) ≤ slashes (take (suc n) xs)
more_slashes_at [] zero = omega arith
more_slashes_at [] (suc n) = omega arith
more_slashes_at (x ∷ xs) zero = omega arith
more_slashes_at (x ∷ xs) (suc n) = by (x == 47) refl (more_slashes_at xs n)
  where
    by : (b : Bool) → (x == 47) ≡ b → slashes (take n xs) ≤ slashes (take (suc n) xs) → slashes (x ∷ take n xs) ≤ slashes (x ∷ take (suc n) xs)
    by true is_slash rest = rw is_slash (omega (arith, rest))
    by false isnt rest = rw isnt rest

-- one byte more, which is a slash
pub one_slash : (xs : List ℕ) (n : ℕ) → n < length xs → get_or xs n 0 ≡ 47 → slashes (take (n + 1) xs) ≡ slashes (take n xs) + 1
one_slash xs n lt is = let next : n + 1 ≡ suc n = omega arith in rw next (omega (arith, one_slash_at xs n lt is))

-- a byte more has no fewer
pub more_slashes : (xs : List ℕ) (n : ℕ) → slashes (take n xs) ≤ slashes (take (n + 1) xs)
more_slashes xs n = let next : n + 1 ≡ suc n = omega arith in rw next (more_slashes_at xs n)

-- the front of a text has no more of them
pub front_slashes : (xs : List ℕ) (n : ℕ) → slashes (take n xs) ≤ slashes xs
front_slashes [] zero = omega arith
front_slashes [] (suc n) = omega arith
front_slashes (x ∷ xs) zero = omega arith
front_slashes (x ∷ xs) (suc n) = by (x == 47) refl (front_slashes xs n)
  where
    by : (b : Bool) → (x == 47) ≡ b → slashes (take n xs) ≤ slashes xs → slashes (x ∷ take n xs) ≤ slashes (x ∷ xs)
    by true is_slash rest = rw is_slash (omega (arith, rest))
    by false isnt rest = rw isnt rest
