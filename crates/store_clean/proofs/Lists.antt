-- Lists that grow by one item.
use Rattle.std.proofs.Common.{◌≡◌, ◌∙◌, sym, ap, refl, subst, arith, ℕ, zero, suc, ◌+◌, ◌<◌, ◌≤◌, ◌⊎◌, List, [], ◌∷◌, ◌++◌, length, get_or, take, Option, None, Some}
use Rattle.std.specs.Prelude.{Contains, slice_get}
use Rattle.std.specs.List.{AllByRecursion}
use Rattle.std.proofs.lemmas.List.{take_all, take_more}
use Rattle.std.proofs.lemmas.List.Elements.{Contains-append_left, Contains-push, Contains-push_cases}
use Rattle.std.proofs.lemmas.Option.{get_or_from_slice_get, slice_get-get_or, slice_get_within}

grown : {A : Type 0} (xs : List A) (n : ℕ) (y : A) → n < length xs → y ≡ get_or xs n y → take (n + 1) xs ≡ take n xs ++ y ∷ []
grown xs n y lt is = take_more xs n y lt ∙ ap (λ z. take n xs ++ z ∷ []) (sym is)

pub taken_or : {A : Type 0} (xs : List A) (n : ℕ) (y x : A) → n < length xs → y ≡ get_or xs n y → Contains (take (n + 1) xs) x → Contains (take n xs) x ⊎ (y ≡ x)
taken_or xs n y x lt is has = Contains-push_cases (take n xs) y x (subst (λ l. Contains l x) (grown xs n y lt is) has)

pub taken_first : {A : Type 0} (xs : List A) (n : ℕ) (y x : A) → n < length xs → y ≡ get_or xs n y → Contains (take n xs) x → Contains (take (n + 1) xs) x
taken_first xs n y x lt is has = subst (λ l. Contains l x) (sym (grown xs n y lt is)) (Contains-append_left (take n xs) (y ∷ []) x has)

pub taken_last : {A : Type 0} (xs : List A) (n : ℕ) (y : A) → n < length xs → y ≡ get_or xs n y → Contains (take (n + 1) xs) y
taken_last xs n y lt is = subst (λ l. Contains l y) (sym (grown xs n y lt is)) (Contains-push (take n xs) y)

pub taken_none : {A : Type 0} (xs : List A) (x : A) → Contains (take 0 xs) x → ⊥
taken_none xs x has = let lt = has.1 in omega (arith, lt)

pub taken_all : {A : Type 0} (xs : List A) (n : ℕ) (x : A) → length xs ≤ n → Contains xs x → Contains (take n xs) x
taken_all xs n x past has = subst (λ l. Contains l x) (sym (take_all n xs past)) has

pub nothing : {A : Type 0} (x : A) → Contains [] x → ⊥
nothing x has = let lt = has.1 in omega (arith, lt)

-- ---- items by their places

pub get_push : {A : Type 0} (xs : List A) (y : A) (k : ℕ) → k < length xs → slice_get (xs ++ y ∷ []) k ≡ slice_get xs k
get_push [] y k lt = absurd (omega (arith, lt))
get_push (x ∷ xs) y zero lt = refl
get_push (x ∷ xs) y (suc k) lt = get_push xs y k (omega (arith, lt))

pub get_last : {A : Type 0} (xs : List A) (y : A) → slice_get (xs ++ y ∷ []) (length xs) ≡ Some y
get_last [] y = refl
get_last (x ∷ xs) y = get_last xs y

pub some_one : {A : Type 0} (o : Option A) (x y : A) → o ≡ Some x → o ≡ Some y → x ≡ y
some_one o x y p q = cc

pub none_some : {A : Type 0} (o : Option A) (x : A) → o ≡ None → o ≡ Some x → ⊥
none_some o x p q = absurd cc

-- an item of the list stands at a place
pub place_of : {A : Type 0} (xs : List A) (x : A) → Contains xs x → (k : ℕ) × (slice_get xs k ≡ Some x)
place_of xs x has = (has.0, slice_get-get_or xs has.0 x has.1 ∙ ap (λ y. Some y) has.2)

-- what stands at a place is an item
pub among : {A : Type 0} (xs : List A) (k : ℕ) (x : A) → slice_get xs k ≡ Some x → Contains xs x
among xs k x e = (k, slice_get_within xs k x e, get_or_from_slice_get xs k x x e)

-- an item at each place of the list
pub item_at : {A : Type 0} (xs : List A) (k : ℕ) → k < length xs → (x : A) × (slice_get xs k ≡ Some x)
item_at [] k lt = absurd (omega (arith, lt))
item_at (x ∷ xs) zero lt = (x, refl)
item_at (x ∷ xs) (suc k) lt = item_at xs k (omega (arith, lt))

-- what is said of each item
pub each_in : {A : Type 0} (P : A → Type 0) (xs : List A) (x : A) → AllByRecursion P xs → Contains xs x → P x
each_in P xs x all has = by xs all (place_of xs x has).0 (place_of xs x has).1
  where
    by : (ys : List _) → AllByRecursion P ys → (k : ℕ) → slice_get ys k ≡ Some x → P x
    by [] all k e = absurd cc
    by (y ∷ ys) all zero e = let same : y ≡ x = cc in subst P same all.0
    by (y ∷ ys) all (suc k) e = by ys all.1 k e

-- past the end there is nothing
pub past_end : {A : Type 0} (xs : List (List A)) (k : ℕ) (x : A) → Contains (get_or xs k []) x → k < length xs
past_end [] k x has = absurd (nothing x has)
past_end (y ∷ ys) zero x has = omega arith
past_end (y ∷ ys) (suc k) x has = let lt = past_end ys k x has in omega (arith, lt)
