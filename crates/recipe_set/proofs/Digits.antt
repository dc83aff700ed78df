-- Numbers as runs of digits.
use Rattle.std.proofs.Common.{eq-or-lt_of_le, ◌≡◌, refl, sym, ◌∙◌, ap, arith, ℕ, suc, ◌+◌, ◌*◌, ◌-◌, ◌<◌, ◌≤◌, ◌≢◌, ◌⊎◌, inl, inr, Bool, false, true≢false, List, [], ◌∷◌, fold, length, true, ◌&&◌}
use Rattle.std.specs.List.{list_all}
use Rattle.std.specs.Char.{is_ascii_digit}
use Rattle.std.specs.Ordering.{nat_cmp, ordering_then, ordering_reverse, MatchOrdering}
use Rattle.std.specs.Cmp.{nat_cmp_is, ranked, nat_cmp_total}
use Rattle.std.specs.Cmp.Lexicographic.{slice_cmp}
use Rattle.std.specs.declared.cmp.Ordering.{Ordering}
use Rattle.std.specs.declared.cmp.Ordering.TheVariants.{Less, Equal, Greater}
use Rattle.load_model.specs.Versions.{number_of}

-- a number and one digit more
abbrev pub with_digit : ℕ → ℕ → ℕ
with_digit n c = n * 10 + (c - 48)

abbrev pub number_from : ℕ → List ℕ → ℕ
number_from n run = fold with_digit n run

step_by : (a b c d : ℕ) (r s : Ordering) → 48 ≤ c → c < 58 → 48 ≤ d → d < 58 → MatchOrdering r (a < b) (a ≡ b) (b < a) → MatchOrdering s (c < d) (c ≡ d) (d < c)
    → MatchOrdering (ordering_then r s) (with_digit a c < with_digit b d) (with_digit a c ≡ with_digit b d) (with_digit b d < with_digit a c)
step_by a b c d Less s h i j k l m = omega (arith, l)
step_by a b c d Equal Less h i j k l m = omega (arith, l, m)
step_by a b c d Equal Equal h i j k l m = omega (arith, l, m)
step_by a b c d Equal Greater h i j k l m = omega (arith, l, m)
step_by a b c d Greater s h i j k l m = omega (arith, l)

step : (a b c d : ℕ) → 48 ≤ c → c < 58 → 48 ≤ d → d < 58 → nat_cmp (with_digit a c) (with_digit b d) ≡ ordering_then (nat_cmp a b) (nat_cmp c d)
step a b c d h i j k = sym (nat_cmp_is (with_digit a c) (with_digit b d) (ordering_then (nat_cmp a b) (nat_cmp c d))
    (step_by a b c d (nat_cmp a b) (nat_cmp c d) h i j k (ranked a b (nat_cmp a b) refl) (ranked c d (nat_cmp c d) refl)))

then_assoc : (r s t : Ordering) → ordering_then (ordering_then r s) t ≡ ordering_then r (ordering_then s t)
then_assoc Less s t = refl
then_assoc Equal s t = refl
then_assoc Greater s t = refl

-- a digit is one of ten bytes
digit_range : (c : ℕ) → is_ascii_digit c ≡ true → (48 ≤ c) × (c < 58)
digit_range c h = (grind (arith, h), grind (arith, h))

first_digit : (c : ℕ) → 48 ≤ c → (c ≢ 48) → 0 < with_digit 0 c
first_digit c h n = grind (arith, h, n)

up_to : (m n : ℕ) → m ≤ n → (m ≡ n) ⊎ (m < n)
up_to m n h = eq-or-lt_of_le h

-- with a digit more a number that isn't 0 isn't 0
digit_grows : (n c : ℕ) → 0 < n → 0 < with_digit n c
digit_grows n c h = omega (arith, h)

both : (a b : Bool) → (a && b) ≡ true → (a ≡ true) × (b ≡ true)
both true b h = (refl, h)
both false b h = absurd (true≢false (sym h))

then_equal : (r : Ordering) → r ≡ ordering_then r Equal
then_equal Less = refl
then_equal Equal = refl
then_equal Greater = refl

-- runs as long as one another, each behind a number
same_length : (a b : ℕ) (xs ys : List ℕ) → length xs ≡ length ys → list_all is_ascii_digit xs ≡ true → list_all is_ascii_digit ys ≡ true
    → nat_cmp (number_from a xs) (number_from b ys) ≡ ordering_then (nat_cmp a b) (slice_cmp nat_cmp xs ys)
same_length a b [] [] k h i = then_equal (nat_cmp a b)
same_length a b [] (y ∷ ys) k h i = absurd (let e : 0 ≡ suc (length ys) = k in omega (arith, e))
same_length a b (x ∷ xs) [] k h i = absurd (let e : suc (length xs) ≡ 0 = k in omega (arith, e))
same_length a b (x ∷ xs) (y ∷ ys) k h i =
    let e : suc (length xs) ≡ suc (length ys) = k in
    let hs = both (is_ascii_digit x) (list_all is_ascii_digit xs) h in
    let js = both (is_ascii_digit y) (list_all is_ascii_digit ys) i in
    let hx = digit_range x hs.0 in
    let hy = digit_range y js.0 in
    same_length (with_digit a x) (with_digit b y) xs ys (omega (arith, e)) hs.1 js.1
    ∙ ap (λ o. ordering_then o (slice_cmp nat_cmp xs ys)) (step a b x y hx.0 hx.1 hy.0 hy.1)
    ∙ then_assoc (nat_cmp a b) (nat_cmp x y) (slice_cmp nat_cmp xs ys)

cmp_zero : (n : ℕ) → 0 < n → nat_cmp n 0 ≡ Greater
cmp_zero n h = sym (nat_cmp_is n 0 Greater h)

-- a number that isn't 0, with as many digits more as another one has, or with more
longer_by : (n : ℕ) (xs ys : List ℕ) → 0 < n → (length ys ≡ length xs) ⊎ (length ys < length xs) → list_all is_ascii_digit xs ≡ true → list_all is_ascii_digit ys ≡ true
    → nat_cmp (number_from n xs) (number_from 0 ys) ≡ Greater
longer_by n xs ys h (inl k) i j = same_length n 0 xs ys (sym k) i j ∙ ap (λ o. ordering_then o (slice_cmp nat_cmp xs ys)) (cmp_zero n h)
longer_by n [] ys h (inr k) i j = absurd (let e : length ys < 0 = k in omega (arith, e))
longer_by n (x ∷ xs) ys h (inr k) i j =
    let e : length ys < suc (length xs) = k in
    longer_by (with_digit n x) xs ys (digit_grows n x h) (up_to (length ys) (length xs) (omega (arith, e))) (both (is_ascii_digit x) (list_all is_ascii_digit xs) i).1 j

-- a run that doesn't begin with 0 is greater than a shorter one
longer : (xs ys : List ℕ) → ((more : List ℕ) → xs ≡ 48 ∷ more → ⊥) → length ys < length xs → list_all is_ascii_digit xs ≡ true → list_all is_ascii_digit ys ≡ true
    → nat_cmp (number_from 0 xs) (number_from 0 ys) ≡ Greater
longer [] ys f k i j = absurd (let e : length ys < 0 = k in omega (arith, e))
longer (x ∷ xs) ys f k i j =
    let e : length ys < suc (length xs) = k in
    let is = both (is_ascii_digit x) (list_all is_ascii_digit xs) i in
    let r = digit_range x is.0 in
    let n : x ≢ 48 = λ z. f xs (ap (λ c. c ∷ xs) z) in
    let low = r.0 in
    longer_by (with_digit 0 x) xs ys (first_digit x low n) (up_to (length ys) (length xs) (omega (arith, e))) is.1 j

decided_by : (xs ys : List ℕ) (o : Ordering) → ((more : List ℕ) → xs ≡ 48 ∷ more → ⊥) → ((more : List ℕ) → ys ≡ 48 ∷ more → ⊥) → list_all is_ascii_digit xs ≡ true → list_all is_ascii_digit ys ≡ true
    → MatchOrdering o (length xs < length ys) (length xs ≡ length ys) (length ys < length xs) → (o ≡ Equal → ⊥) → o ≡ nat_cmp (number_from 0 xs) (number_from 0 ys)
decided_by xs ys Less f g i j m n = sym (nat_cmp_total.antisymm (number_from 0 xs) (number_from 0 ys) ∙ ap ordering_reverse (longer ys xs g m j i))
decided_by xs ys Equal f g i j m n = absurd (n refl)
decided_by xs ys Greater f g i j m n = sym (longer xs ys f m i j)

-- where the lengths differ they decide
pub decided : (xs ys : List ℕ) (o : Ordering) → ((more : List ℕ) → xs ≡ 48 ∷ more → ⊥) → ((more : List ℕ) → ys ≡ 48 ∷ more → ⊥) → list_all is_ascii_digit xs ≡ true → list_all is_ascii_digit ys ≡ true
    → o ≡ nat_cmp (length xs) (length ys) → (o ≡ Equal → ⊥) → o ≡ nat_cmp (number_of xs) (number_of ys)
decided xs ys o f g i j e n = decided_by xs ys o f g i j (ranked (length xs) (length ys) o e) n

-- ... and else the digits do
pub as_long : (xs ys : List ℕ) → list_all is_ascii_digit xs ≡ true → list_all is_ascii_digit ys ≡ true → Equal ≡ nat_cmp (length xs) (length ys)
    → nat_cmp (number_of xs) (number_of ys) ≡ slice_cmp nat_cmp xs ys
as_long xs ys i j e = same_length 0 0 xs ys (ranked (length xs) (length ys) Equal e) i j
