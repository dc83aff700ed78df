-- The tasks in hand, and all but one.
use Rattle.std.proofs.Common.{◌≡◌, ◌≢◌, ◌∙◌, sym, ap, subst, refl, ℕ, ◌≤◌, zero, suc, arith, Bool, true, false, List, [], ◌∷◌, length, cond, inl, inr, nat_eq}
use Rattle.std.specs.Prelude.{Contains, not, ◌||◌}
use Rattle.std.specs.List.{list_any}
use Rattle.std.proofs.lemmas.Bool.{false≢true}
use Rattle.std.proofs.lemmas.Bool.Decides.{Decides-eqb}
use Rattle.meta_model.proofs.Bools.{either_way}
use Rattle.run_queue.specs.Turns.{without}

-- another task stays
other_stays : (t u : ℕ) → u ≢ t → not (nat_eq u t) ≡ true
other_stays t u ne = elim (either_way (nat_eq u t)) [
  | inl same ↦ absurd (ne ((Decides-eqb u t).0 same))
  | inr differ ↦ ap not differ
]

-- it is in the longer list too
behind_one : (x u : ℕ) (xs : List ℕ) → Contains xs u → Contains (x ∷ xs) u
behind_one x u xs c = (suc c.0, let lt = c.1 in omega (arith, lt), c.2)

pub in_without : (t u : ℕ) → u ≢ t → (xs : List ℕ) → Contains xs u → Contains (without t xs) u
in_without t u ne [] c = absurd (let lt = c.1 in omega (arith, lt))
in_without t u ne (x ∷ xs) (zero, lt, is) = subst (λ (b : Bool). Contains (cond b (x ∷ without t xs) (without t xs)) u) (sym (other_stays t x (λ same. ne (sym is ∙ same)))) (zero, omega arith, is)
in_without t u ne (x ∷ xs) (suc k, lt, is) = by (not (nat_eq x t)) (in_without t u ne xs (k, omega (arith, lt), is))
  where
    by : (b : Bool) → Contains (without t xs) u → Contains (cond b (x ∷ without t xs) (without t xs)) u
    by true c = behind_one x u (without t xs) c
    by false c = c

pub from_without : (t u : ℕ) (xs : List ℕ) → Contains (without t xs) u → Contains xs u
from_without t u [] c = c
from_without t u (x ∷ xs) c = by (not (nat_eq x t)) (from_without t u xs) c
  where
    by : (b : Bool) → (Contains (without t xs) u → Contains xs u) → Contains (cond b (x ∷ without t xs) (without t xs)) u → Contains (x ∷ xs) u
    by true rec (zero, lt, is) = (zero, omega arith, is)
    by true rec (suc k, lt, is) = behind_one x u xs (rec (k, omega (arith, lt), is))
    by false rec d = behind_one x u xs (rec d)

pub without_shorter : (t : ℕ) (xs : List ℕ) → length (without t xs) ≤ length xs
without_shorter t [] = omega arith
without_shorter t (x ∷ xs) = by (not (nat_eq x t)) (without_shorter t xs)
  where
    by : (b : Bool) → length (without t xs) ≤ length xs → length (cond b (x ∷ without t xs) (without t xs)) ≤ length (x ∷ xs)
    by true le = omega (arith, le)
    by false le = omega (arith, le)

-- where it was the only one none is left
pub without_alone : (t : ℕ) → without t (t ∷ []) ≡ []
without_alone t = ap (λ (b : Bool). cond (not b) (t ∷ []) []) ((Decides-eqb t t).1 refl)

-- ---- whether a task is in hand, as a search answers it

pub found_in : (t : ℕ) (xs : List ℕ) → list_any (λ u. nat_eq u t) xs ≡ true → Contains xs t
found_in t [] is = absurd (false≢true is)
found_in t (x ∷ xs) is = by (nat_eq x t) refl is (found_in t xs)
  where
    by : (b : Bool) → nat_eq x t ≡ b → (b || list_any (λ u. nat_eq u t) xs) ≡ true → (list_any (λ u. nat_eq u t) xs ≡ true → Contains xs t) → Contains (x ∷ xs) t
    by true e any more = (zero, omega arith, (Decides-eqb x t).0 e)
    by false e any more = behind_one x t xs (more any)

neither : (a b : Bool) → (a || b) ≡ false → (a ≡ false) × (b ≡ false)
neither true b e = absurd (false≢true (sym e))
neither false b e = (refl, e)

pub not_found_in : (t : ℕ) (xs : List ℕ) → list_any (λ u. nat_eq u t) xs ≡ false → Contains xs t → ⊥
not_found_in t [] none c = let lt = c.1 in omega (arith, lt)
not_found_in t (x ∷ xs) none (zero, lt, is) = false≢true (sym (neither (nat_eq x t) (list_any (λ u. nat_eq u t) xs) none).0 ∙ (Decides-eqb x t).1 is)
not_found_in t (x ∷ xs) none (suc k, lt, is) = not_found_in t xs (neither (nat_eq x t) (list_any (λ u. nat_eq u t) xs) none).1 (k, omega (arith, lt), is)

-- some are in hand where their number isn't 0
pub some_by : (xs : List ℕ) (count : ℕ) (empty : Bool) → count ≡ length xs → empty ≡ nat_eq count 0 → empty ≡ false → xs ≢ []
some_by xs count empty long is e none = false≢true (sym e ∙ is ∙ (Decides-eqb count 0).1 (long ∙ ap (λ (l : List ℕ). length l) none))
