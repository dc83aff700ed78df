-- How many are marked, and when two lists of marks are one.
use Rattle.std.proofs.Common.{◌≡◌, ◌∙◌, sym, ap, refl, add_comm, arith, ℕ, zero, suc, ◌+◌, ◌<◌, ◌≤◌, Bool, true, false, cond, List, [], ◌∷◌, length, get_or, set}
use Rattle.std.proofs.lemmas.List.{ext_get_or}
use Rattle.std.proofs.lemmas.List.Sums.{sum_by-cons}
use Rattle.store_keep.specs.Keep.{IsMarked}
use Rattle.store_keep.specs.Tries.{marked_in}

yes : (marks : List Bool) → marked_in (true ∷ marks) ≡ marked_in marks + 1
yes marks = sum_by-cons (λ (m : Bool). cond m 1 0) true marks ∙ add_comm 1 (marked_in marks)

no : (marks : List Bool) → marked_in (false ∷ marks) ≡ marked_in marks
no marks = refl

-- one more is marked
pub count_set : (marks : List Bool) (p : ℕ) → p < length marks → get_or marks p false ≡ false → marked_in (set marks p true) ≡ marked_in marks + 1
count_set [] p lt un = absurd (omega (arith, lt))
count_set (true ∷ marks) zero lt un = absurd (let e : true ≡ false = un in cc)
count_set (false ∷ marks) zero lt un = yes marks ∙ ap (λ (n : ℕ). n + 1) (sym (no marks))
count_set (true ∷ marks) (suc p) lt un = omega (arith, count_set marks p (omega (arith, lt)) un, yes marks, yes (set marks p true))
count_set (false ∷ marks) (suc p) lt un = omega (arith, count_set marks p (omega (arith, lt)) un, no marks, no (set marks p true))

-- where all that are marked are marked there too, no fewer are
pub count_le : (some more : List Bool) → length some ≡ length more → ((v : ℕ) → IsMarked some v → IsMarked more v) → marked_in some ≤ marked_in more
count_le [] [] long all = omega arith
count_le [] (y ∷ more) long all = absurd (omega (arith, long))
count_le (x ∷ some) [] long all = absurd (omega (arith, long))
count_le (false ∷ some) (false ∷ more) long all = omega (arith, count_le some more (omega (arith, long)) (λ v m. all (suc v) m), no some, no more)
count_le (false ∷ some) (true ∷ more) long all = omega (arith, count_le some more (omega (arith, long)) (λ v m. all (suc v) m), no some, yes more)
count_le (true ∷ some) (true ∷ more) long all = omega (arith, count_le some more (omega (arith, long)) (λ v m. all (suc v) m), yes some, yes more)
count_le (true ∷ some) (false ∷ more) long all = absurd (let e : false ≡ true = all zero refl in cc)

-- marks of one length that mark the same are one
pub same_marks : (some others : List Bool) → length some ≡ length others → ((v : ℕ) → IsMarked some v → IsMarked others v) → ((v : ℕ) → IsMarked others v → IsMarked some v) → some ≡ others
same_marks some others long there back = ext_get_or false some others long (λ i lt. by i (get_or some i false) (get_or others i false) refl refl)
  where
    by : (i : ℕ) (a b : Bool) → get_or some i false ≡ a → get_or others i false ≡ b → get_or some i false ≡ get_or others i false
    by i true b x y = x ∙ sym (there i x)
    by i false true x y = absurd (let e : true ≡ false = sym (back i y) ∙ x in cc)
    by i false false x y = x ∙ sym y
