-- What stands at the front or the end of a text.
use Rattle.std.proofs.Common.{◌≡◌, ℕ, zero, suc, ◌+◌, ◌-◌, ◌<◌, ◌≤◌, true, false, List, [], ◌∷◌, ◌++◌, length, take, drop, get_or, refl, ap, arith, add-one, sub-one, drop-cons, Bool}
use Rattle.std.proofs.Math.Seq.{take-suc}
use Rattle.std.proofs.lemmas.Bool.Decides.{nat_tests}
use Rattle.meta_model.specs.Text.{is_blank, skip_blanks, end_kept, without_end}

-- blanks and white space are ASCII
pub blank-ascii : (c : ℕ) → is_blank c ≡ true → c < 128
blank-ascii c e = grind (arith, nat_tests)

-- the blank at the place n goes
pub skip_blanks-more : (xs : List ℕ) (n : ℕ) → n < length xs → is_blank (get_or xs n 0) ≡ true → skip_blanks (drop (n + 1) xs) ≡ skip_blanks (drop n xs)
skip_blanks-more xs n h t = rw (add-one, drop-cons xs n 0 h, t) refl

-- the last character goes
pub without_end-goes : (p : ℕ → Bool) (xs : List ℕ) (c : ℕ) → p c ≡ true → without_end p (xs ++ c ∷ []) ≡ without_end p xs
without_end-goes p [] c h = rw h
without_end-goes p (x ∷ xs) c h = ap (end_kept p x) (without_end-goes p xs c h)

-- or nothing goes
kept : (p : ℕ → Bool) (x : ℕ) (ys zs : List ℕ) (c : ℕ) → ys ≡ zs ++ c ∷ [] → end_kept p x ys ≡ x ∷ zs ++ c ∷ []
kept p x ys [] c e = rw e
kept p x ys (z ∷ zs) c e = rw e

pub without_end-stays : (p : ℕ → Bool) (xs : List ℕ) (c : ℕ) → p c ≡ false → without_end p (xs ++ c ∷ []) ≡ xs ++ c ∷ []
without_end-stays p [] c h = rw h
without_end-stays p (x ∷ xs) c h = kept p x (without_end p (xs ++ c ∷ [])) xs c (without_end-stays p xs c h)

-- at the place e of the line
pub without_end-back : (p : ℕ → Bool) (xs : List ℕ) (e : ℕ) → 0 < e → e ≤ length xs → p (get_or xs (e - 1) 0) ≡ true → without_end p (take (e - 1) xs) ≡ without_end p (take e xs)
without_end-back p xs zero h k t = absurd (omega arith)
without_end-back p xs (suc n) h k t = let t' = rw sub-one at t in rw (sub-one, take-suc xs n 0 k, without_end-goes p (take n xs) (get_or xs n 0) t')

pub without_end-here : (p : ℕ → Bool) (xs : List ℕ) (e : ℕ) → 0 < e → e ≤ length xs → p (get_or xs (e - 1) 0) ≡ false → without_end p (take e xs) ≡ take e xs
without_end-here p xs zero h k t = absurd (omega arith)
without_end-here p xs (suc n) h k t = let t' = rw sub-one at t in rw (take-suc xs n 0 k, without_end-stays p (take n xs) (get_or xs n 0) t')
