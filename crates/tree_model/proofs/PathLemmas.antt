-- What the tests of paths mean.
use Rattle.std.proofs.Common.{◌≡◌, ◌<◌, ◌∙◌, sym, ap, refl, ℕ, zero, suc, get_or, List, [], ◌∷◌, ◌++◌, length, Bool, true, false, IsTrue, All, arith, Bor, take, drop, nat_eq, ◌+◌, inl, inr, append-nil}
use Rattle.std.specs.Cmp.Lexicographic.{pointwise}
use Rattle.std.proofs.lemmas.Slice.Eq.{strip_prefix_is}
use Rattle.std.proofs.lemmas.Bool.Decides.{Decides-eqb}
use Rattle.std.specs.Bool.{MatchBool}
use Rattle.std.specs.List.{AllWithin, HoldsAt}
use Rattle.std.specs.Prelude.{Contains, Some, None, ◌≢◌}
use Rattle.std.proofs.lemmas.Iterator.Search.{true_from_All}
use Rattle.tree_model.specs.Path.{IsBelow, IsAtOrBelow, BeginsWith}

-- `all` answers whether each element has P
pub all_means : (P : List ℕ → Type 0) (r : Bool) (xs : List (List ℕ)) → MatchBool r (AllWithin P xs 0 (length xs)) ((k : ℕ) × (k < length xs) × HoldsAt (λ x. P x → ⊥) xs k) → (IsTrue r → All P xs) × (All P xs → IsTrue r)
all_means P true xs h = (λ _ k d lt. h k d (omega arith) lt, λ _. refl)
all_means P false xs h = (λ f. cc, λ all. true_from_All P (λ x. P x → ⊥) false xs (λ x p q. q p) h all)

same_end : (front xs ys : List ℕ) → front ++ xs ≡ front ++ ys → xs ≡ ys
same_end [] xs ys e = e
same_end (x ∷ front) xs ys e = same_end front xs ys (cc)

-- the rest behind a folder's path begins with a slash exactly where the path lies below the folder
pub below_means : (folder path rest : List ℕ) (r : Bool) → path ≡ folder ++ rest → ((IsTrue r → (more : List ℕ) × (rest ≡ 47 ∷ more)) × ((more : List ℕ) × (rest ≡ 47 ∷ more) → IsTrue r)) → (IsTrue r → IsBelow folder path) × (IsBelow folder path → IsTrue r)
below_means folder path rest r e h = (λ t. ((h.0 t).0, e ∙ ap (λ x. folder ++ x) (h.0 t).1), λ b. h.1 (b.0, same_end folder rest (47 ∷ b.0) (sym e ∙ b.1)))

pub not_below : (folder path : List ℕ) → ((rest : List ℕ) → path ≢ folder ++ rest) → (IsTrue false → IsBelow folder path) × (IsBelow folder path → IsTrue false)
not_below folder path unlike = (λ f. cc, λ b. absurd (unlike (47 ∷ b.0) b.1))

-- the two outcomes of `strip_prefix`, for texts that are read as bytes
pub some_rest : (path folder s p : List ℕ) (x : Bor (List ℕ)) → s ≡ path → p ≡ folder → (pointwise nat_eq (take (length p) s) p ≡ true) × (x.now ≡ drop (length p) s) × (length x.now + length p ≡ length s) → path ≡ folder ++ x.now
some_rest path folder s p x e f m = sym e ∙ strip_prefix_is Decides-eqb s p (Some x) m ∙ ap (λ l. l ++ x.now) f

pub no_rest : (path folder s p : List ℕ) → s ≡ path → p ≡ folder → pointwise nat_eq (take (length p) s) p ≡ false → (rest : List ℕ) → path ≢ folder ++ rest
no_rest path folder s p e f m rest h = strip_prefix_is Decides-eqb s p None m rest (e ∙ h ∙ ap (λ l. l ++ rest) (sym f))

-- what doesn't begin with a path's bytes
pub unlike_from_none : (path folder s p : List ℕ) → s ≡ path → p ≡ folder → pointwise nat_eq (take (length p) s) p ≡ false → BeginsWith folder path → ⊥
unlike_from_none path folder s p e f m b = no_rest path folder s p e f m b.0 b.1

-- a text behind a path that is not empty and doesn't begin with a slash
pub longer_from_rest : (path rest : List ℕ) → ((more : List ℕ) → rest ≢ 47 ∷ more) → rest ≢ [] → IsAtOrBelow path (path ++ rest) → ⊥
longer_from_rest path rest no_slash some (inl e) = some (same_end path rest [] (e ∙ sym (append-nil path)))
longer_from_rest path rest no_slash some (inr h) = no_slash h.0 (same_end path rest (47 ∷ h.0) h.1)

-- ---- no zero stands in a text that is written out

abbrev pub positive : List ℕ → Bool
positive [] = true
positive (zero ∷ xs) = false
positive (suc x ∷ xs) = positive xs

none_zero : (xs : List ℕ) (k : ℕ) → positive xs ≡ true → k < length xs → get_or xs k 0 ≡ 0 → ⊥
none_zero [] k p lt e = omega arith
none_zero (zero ∷ xs) k p lt e = cc
none_zero (suc x ∷ xs) zero p lt e = let h : suc x ≡ 0 = e in omega arith
none_zero (suc x ∷ xs) (suc k) p lt e = none_zero xs k p (omega arith) e

pub no_zero_in : (xs : List ℕ) → positive xs ≡ true → Contains xs 0 → ⊥
no_zero_in xs p has = none_zero xs has.0 p has.1 has.2
