-- Texts in byte order.
use Rattle.std.proofs.Common.{◌≡◌, refl, sym, ◌∙◌, ap, subst, ℕ, List, [], ◌∷◌, fold, filter, Bool, true, false, ◌||◌, ◌⊎◌, inl, inr, bytes_eq}
use Rattle.std.specs.Cmp.Lexicographic.{slice_cmp}
use Rattle.std.specs.Ordering.{nat_cmp, is_eq, ordering_reverse}
use Rattle.std.specs.declared.cmp.Ordering.{Ordering}
use Rattle.std.specs.declared.cmp.Ordering.TheVariants.{Less, Equal, Greater}
use Rattle.std.proofs.lemmas.Cmp.{nat_list_cmp_total}
use Rattle.std.proofs.lemmas.Map.Lookups.{exact_bytes}
use Rattle.std.proofs.lemmas.Map.Text.{is_eq-slice_cmp}
use Rattle.meta_model.proofs.Bools.{not_both, either_way, or_first, same_text, text_itself}
use Rattle.meta_model.proofs.Winner.{in_filter, filter_passes}
use Rattle.meta_model.specs.Text.{is_in, is_less, is_before, into_order, in_byte_order}
use Rattle.meta_model.specs.Ascending.{Before, Above, Ascending}

-- the order

itself : (x : List ℕ) → slice_cmp nat_cmp x x ≡ Equal
itself x = equal_is (slice_cmp nat_cmp x x) (is_eq-slice_cmp x x ∙ text_itself x)
  where
    equal_is : (o : Ordering) → is_eq o ≡ true → o ≡ Equal
    equal_is Less h = absurd cc
    equal_is Equal h = refl
    equal_is Greater h = absurd cc

not_before_itself : {A : Type 0} (x : List ℕ) → Before x x → A
not_before_itself x h = let e : Less ≡ Equal = sym h ∙ itself x in absurd cc

cases_of : (x y : List ℕ) (o : Ordering) → slice_cmp nat_cmp x y ≡ o → (Before x y) ⊎ ((x ≡ y) ⊎ (Before y x))
cases_of x y Less h = inl h
cases_of x y Equal h = inr (inl (exact_bytes x y h))
cases_of x y Greater h = inr (inr (nat_list_cmp_total.antisymm y x ∙ ap ordering_reverse h))

order_cases : (x y : List ℕ) → (Before x y) ⊎ ((x ≡ y) ⊎ (Before y x))
order_cases x y = cases_of x y (slice_cmp nat_cmp x y) refl

above_more : (x y : List ℕ) (ys : List (List ℕ)) → Before x y → Above y ys → Above x ys
above_more x y [] b a = tt
above_more x y (z ∷ ys) b a = (nat_list_cmp_total.trans x y z b a.0, above_more x y ys b a.1)

apart : (x y : List ℕ) → Before x y → bytes_eq x y ≡ false
apart x y b = elim (either_way (bytes_eq x y)) [
  | inl e ↦ not_before_itself x (subst (Before x) (sym (same_text x y e)) b)
  | inr e ↦ e
]

pub above_not_in : (x : List ℕ) (ys : List (List ℕ)) → Above x ys → is_in x ys ≡ false
above_not_in x [] a = refl
above_not_in x (y ∷ ys) a = rw (apart x y a.0) (above_not_in x ys a.1)

in_tails : (b c d : Bool) → b ≡ false → (b || c) ≡ (b || d) → c ≡ d
in_tails true c d h e = not_both true refl h
in_tails false c d h e = e

tails_at : (x t : List ℕ) (xs ys : List (List ℕ)) → Above x xs → Above x ys → (bytes_eq t x || is_in t xs) ≡ (bytes_eq t x || is_in t ys) → is_in t xs ≡ is_in t ys
tails_at x t xs ys a b e = elim (either_way (bytes_eq t x)) [
  | inl same ↦ subst (λ s. is_in s xs ≡ is_in s ys) (sym (same_text t x same)) (above_not_in x xs a ∙ sym (above_not_in x ys b))
  | inr other ↦ in_tails (bytes_eq t x) (is_in t xs) (is_in t ys) other e
]

no_head : {A : Type 0} (x y : List ℕ) (ys : List (List ℕ)) → Before x y → Above y ys → is_in x (y ∷ ys) ≡ true → A
no_head x y ys b a h = not_both (is_in x (y ∷ ys)) h (above_not_in x (y ∷ ys) (b, above_more x y ys b a))

-- ascending lists of the same texts are one
pub ascending_same : (xs ys : List (List ℕ)) → Ascending xs → Ascending ys → ((t : List ℕ) → is_in t xs ≡ is_in t ys) → xs ≡ ys
ascending_same [] [] a b h = refl
ascending_same [] (y ∷ ys) a b h = not_both (is_in y (y ∷ ys)) (or_first (bytes_eq y y) (is_in y ys) (text_itself y)) (sym (h y))
ascending_same (x ∷ xs) [] a b h = not_both (is_in x (x ∷ xs)) (or_first (bytes_eq x x) (is_in x xs) (text_itself x)) (h x)
ascending_same (x ∷ xs) (y ∷ ys) a b h = elim (order_cases x y) [
  | inl l ↦ no_head x y ys l b.0 (sym (h x) ∙ or_first (bytes_eq x x) (is_in x xs) (text_itself x))
  | inr more ↦ elim more [
    | inl e ↦
        let above : Above x ys = subst (λ z. Above z ys) (sym e) b.0 in
        let tails : xs ≡ ys = ascending_same xs ys a.1 b.1 (λ t. tails_at x t xs ys a.0 above (h t ∙ ap (λ z. bytes_eq t z || is_in t ys) (sym e))) in cc
    | inr g ↦ no_head y x xs g a.0 (h y ∙ or_first (bytes_eq y y) (is_in y ys) (text_itself y))
  ]
]

-- texts put in order

above_into : (x t : List ℕ) (ys : List (List ℕ)) → Above x ys → Before x t → Above x (into_order ys t)
above_into x t [] a b = (b, tt)
above_into x t (y ∷ ys) a b = elim (either_way (bytes_eq y t)) [
  | inl e ↦ rw e a
  | inr e ↦ elim (either_way (is_before t y)) [
    | inl l ↦ rw (e, l) (b, a)
    | inr l ↦ rw (e, l) (a.0, above_into x t ys a.1 b)
  ]
]

behind : (y t : List ℕ) → bytes_eq y t ≡ false → is_before t y ≡ false → Before y t
behind y t e l = elim (order_cases y t) [
  | inl b ↦ b
  | inr more ↦ elim more [
    | inl same ↦ not_both (bytes_eq y t) (subst (λ z. bytes_eq y z ≡ true) same (text_itself y)) e
    | inr g ↦ not_both (is_before t y) (ap is_less g) l
  ]
]

before_is : (t y : List ℕ) → is_before t y ≡ true → Before t y
before_is t y h = less_is (slice_cmp nat_cmp t y) h
  where
    less_is : (o : Ordering) → is_less o ≡ true → o ≡ Less
    less_is Less h = refl
    less_is Equal h = absurd cc
    less_is Greater h = absurd cc

pub into_ascending : (list : List (List ℕ)) (t : List ℕ) → Ascending list → Ascending (into_order list t)
into_ascending [] t a = (tt, tt)
into_ascending (x ∷ xs) t a = elim (either_way (bytes_eq x t)) [
  | inl e ↦ rw e a
  | inr e ↦ elim (either_way (is_before t x)) [
    | inl l ↦ rw (e, l) ((before_is t x l, above_more t x xs (before_is t x l) a.0), a)
    | inr l ↦ rw (e, l) (above_into x t xs a.0 (behind x t e l), into_ascending xs t a.1)
  ]
]

or_same : (b c : Bool) → (b || c) ≡ (b || (b || c))
or_same true c = refl
or_same false c = refl

or_swap : (a b c : Bool) → (a || (b || c)) ≡ (b || (a || c))
or_swap true true c = refl
or_swap true false c = refl
or_swap false true c = refl
or_swap false false c = refl

pub into_in : (list : List (List ℕ)) (t q : List ℕ) → is_in q (into_order list t) ≡ (bytes_eq q t || is_in q list)
into_in [] t q = refl
into_in (x ∷ xs) t q = elim (either_way (bytes_eq x t)) [
  | inl e ↦ rw e (or_same (bytes_eq q x) (is_in q xs) ∙ ap (λ z. bytes_eq q z || (bytes_eq q x || is_in q xs)) (same_text x t e))
  | inr e ↦ elim (either_way (is_before t x)) [
    | inl l ↦ rw (e, l) refl
    | inr l ↦ rw (e, l) (ap (λ b. bytes_eq q x || b) (into_in xs t q) ∙ or_swap (bytes_eq q x) (bytes_eq q t) (is_in q xs))
  ]
]

fold_ascending : (xs acc : List (List ℕ)) → Ascending acc → Ascending (fold into_order acc xs)
fold_ascending [] acc a = a
fold_ascending (x ∷ xs) acc a = fold_ascending xs (into_order acc x) (into_ascending acc x a)

or_turn : (a b c : Bool) → ((a || b) || c) ≡ (b || (a || c))
or_turn true true c = refl
or_turn true false c = refl
or_turn false true c = refl
or_turn false false c = refl

fold_in : (xs acc : List (List ℕ)) (q : List ℕ) → is_in q (fold into_order acc xs) ≡ (is_in q acc || is_in q xs)
fold_in [] acc q = sym (or_none (is_in q acc))
  where
    or_none : (b : Bool) → (b || false) ≡ b
    or_none true = refl
    or_none false = refl
fold_in (x ∷ xs) acc q = fold_in xs (into_order acc x) q ∙ ap (λ b. b || is_in q xs) (into_in acc x q) ∙ or_turn (bytes_eq q x) (is_in q acc) (is_in q xs)

pub ordered_ascending : (xs : List (List ℕ)) → Ascending (in_byte_order xs)
ordered_ascending xs = fold_ascending xs [] tt

pub ordered_in : (xs : List (List ℕ)) (q : List ℕ) → is_in q (in_byte_order xs) ≡ is_in q xs
ordered_in xs q = fold_in xs [] q

-- what is filtered

pub filtered_in : (test : List ℕ → Bool) (xs : List (List ℕ)) (t : List ℕ) → (test t ≡ true → is_in t xs ≡ true) → is_in t (filter test xs) ≡ test t
filtered_in test xs t h = elim (either_way (test t)) [
  | inl p ↦ in_filter test xs t p (h p) ∙ sym p
  | inr f ↦ elim (either_way (is_in t (filter test xs))) [
    | inl there ↦ not_both (test t) (filter_passes test xs t there) f
    | inr away ↦ away ∙ sym f
  ]
]

above_filter : (test : List ℕ → Bool) (x : List ℕ) (ys : List (List ℕ)) → Above x ys → Above x (filter test ys)
above_filter test x [] a = tt
above_filter test x (y ∷ ys) a = elim (either_way (test y)) [
  | inl t ↦ rw t (a.0, above_filter test x ys a.1)
  | inr t ↦ rw t (above_filter test x ys a.1)
]

pub filter_ascending : (test : List ℕ → Bool) (xs : List (List ℕ)) → Ascending xs → Ascending (filter test xs)
filter_ascending test [] a = tt
filter_ascending test (x ∷ xs) a = elim (either_way (test x)) [
  | inl t ↦ rw t (above_filter test x xs a.0, filter_ascending test xs a.1)
  | inr t ↦ rw t (filter_ascending test xs a.1)
]

-- an ascending list of the texts that pass
pub ordered_is : (test : List ℕ → Bool) (xs list : List (List ℕ)) → Ascending list → ((t : List ℕ) → is_in t list ≡ test t) → ((t : List ℕ) → test t ≡ true → is_in t xs ≡ true) → list ≡ in_byte_order (filter test xs)
ordered_is test xs list a same there =
    ascending_same list (in_byte_order (filter test xs)) a (ordered_ascending (filter test xs)) (λ t. same t ∙ sym (filtered_in test xs t (there t)) ∙ sym (ordered_in (filter test xs) t))
