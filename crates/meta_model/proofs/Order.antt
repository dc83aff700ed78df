-- The order of forms: what beats what.
use Rattle.std.proofs.Common.{◌≡◌, refl, sym, ◌∙◌, ap, subst, arith, ℕ, suc, ◌<◌, lt_trans, lt_irrefl, List, [], ◌∷◌, map, reverse, length, true, false, nat_lt, ◌⊎◌, inl, inr, if◌then◌else◌, lt-ltb, ltb-true, ltb-false, le-ltb, le_of_lt, le_antisymm, eq-eqb, ne_eqb, bytes_eq, le_refl}
use Rattle.std.proofs.lemmas.List.{reverse-reverse, length-reverse, length-map}
use Rattle.meta_model.proofs.Bools.{not_both, either_way, and_left, and_right, from_or, same_text}
use Rattle.meta_model.specs.Text.{is_in}
use Rattle.meta_model.specs.Overrides.{all_active, place, is_greater, beats}

-- a number is less than another, or equal, or greater
pub data Compared (x y : ℕ) : Type 0 where
  less : x < y → Compared x y
  equal : x ≡ y → Compared x y
  more : y < x → Compared x y

of_tests : (x y : ℕ) → (nat_lt x y ≡ true) ⊎ (nat_lt x y ≡ false) → (nat_lt y x ≡ true) ⊎ (nat_lt y x ≡ false) → Compared x y
of_tests x y (inl a) b = less (ltb-true x y a)
of_tests x y (inr a) (inl b) = more (ltb-true y x b)
of_tests x y (inr a) (inr b) = equal (le_antisymm (ltb-false y x b) (ltb-false x y a))

compared : (x y : ℕ) → Compared x y
compared x y = of_tests x y (either_way (nat_lt x y)) (either_way (nat_lt y x))

-- what the first numbers say of lists

greater_less : (x y : ℕ) (xs ys : List ℕ) → x < y → is_greater (x ∷ xs) (y ∷ ys) ≡ false
greater_less x y xs ys h = rw (le-ltb y x (le_of_lt h), ne_eqb x y (λ e. lt_irrefl x (subst (λ z. x < z) (sym e) h))) refl

greater_equal : (x y : ℕ) (xs ys : List ℕ) → x ≡ y → is_greater (x ∷ xs) (y ∷ ys) ≡ is_greater xs ys
greater_equal x y xs ys h = rw (h, le-ltb y y (le_refl y), eq-eqb y y refl) refl

greater_more : (x y : ℕ) (xs ys : List ℕ) → y < x → is_greater (x ∷ xs) (y ∷ ys) ≡ true
greater_more x y xs ys h = rw (lt-ltb y x h) refl

-- a list greater than another isn't less
greater_one_way : (xs ys : List ℕ) → is_greater xs ys ≡ true → is_greater ys xs ≡ false
greater_one_way [] ys h = not_both false h refl
greater_one_way (x ∷ xs) [] h = not_both false h refl
greater_one_way (x ∷ xs) (y ∷ ys) h = elim (compared x y) [
  | less l ↦ not_both (is_greater (x ∷ xs) (y ∷ ys)) h (greater_less x y xs ys l)
  | equal e ↦ greater_equal y x ys xs (sym e) ∙ greater_one_way xs ys (sym (greater_equal x y xs ys e) ∙ h)
  | more m ↦ greater_less y x ys xs m
]

-- where lists are as long as one another, not greater goes on to not greater
greater_through : (xs ys zs : List ℕ) → length xs ≡ length ys → length ys ≡ length zs → is_greater xs ys ≡ false → is_greater ys zs ≡ false → is_greater xs zs ≡ false
greater_through [] ys zs k l g h = refl
greater_through (x ∷ xs) [] zs k l g h = absurd (let e : suc (length xs) ≡ 0 = k in omega (arith, e))
greater_through (x ∷ xs) (y ∷ ys) [] k l g h = refl
greater_through (x ∷ xs) (y ∷ ys) (z ∷ zs) k l g h =
    let kk : suc (length xs) ≡ suc (length ys) = k in
    let ll : suc (length ys) ≡ suc (length zs) = l in
    elim (compared x y) [
      | less a ↦ elim (compared y z) [
        | less b ↦ greater_less x z xs zs (lt_trans a b)
        | equal b ↦ greater_less x z xs zs (subst (λ w. x < w) b a)
        | more b ↦ not_both (is_greater (y ∷ ys) (z ∷ zs)) (greater_more y z ys zs b) h
      ]
      | equal a ↦ elim (compared y z) [
        | less b ↦ greater_less x z xs zs (subst (λ w. w < z) (sym a) b)
        | equal b ↦ greater_equal x z xs zs (a ∙ b) ∙ greater_through xs ys zs (omega (arith, kk)) (omega (arith, ll)) (sym (greater_equal x y xs ys a) ∙ g) (sym (greater_equal y z ys zs b) ∙ h)
        | more b ↦ not_both (is_greater (y ∷ ys) (z ∷ zs)) (greater_more y z ys zs b) h
      ]
      | more a ↦ not_both (is_greater (x ∷ xs) (y ∷ ys)) (greater_more x y xs ys a) g
    ]

-- lists as long as one another, of which neither is greater, are equal
greater_same : (xs ys : List ℕ) → length xs ≡ length ys → is_greater xs ys ≡ false → is_greater ys xs ≡ false → xs ≡ ys
greater_same [] [] k g h = refl
greater_same [] (y ∷ ys) k g h = absurd (let e : 0 ≡ suc (length ys) = k in omega (arith, e))
greater_same (x ∷ xs) [] k g h = absurd (let e : suc (length xs) ≡ 0 = k in omega (arith, e))
greater_same (x ∷ xs) (y ∷ ys) k g h =
    let kk : suc (length xs) ≡ suc (length ys) = k in
    elim (compared x y) [
      | less a ↦ not_both (is_greater (y ∷ ys) (x ∷ xs)) (greater_more y x ys xs a) h
      | equal a ↦ ap (λ z. z ∷ xs) a ∙ ap (λ zs. y ∷ zs) (greater_same xs ys (omega (arith, kk)) (sym (greater_equal x y xs ys a) ∙ g) (sym (greater_equal y x ys xs (sym a)) ∙ h))
      | more a ↦ not_both (is_greater (x ∷ xs) (y ∷ ys)) (greater_more x y xs ys a) g
    ]

-- the places of parts, from the last to the first
abbrev places : List (List ℕ) → List (List ℕ) → List ℕ
places active p = reverse (map (place active) p)

length_places : (active p : List (List ℕ)) → length (places active p) ≡ length p
length_places active p = length-reverse (map (place active) p) ∙ length-map p (place active)

-- what the numbers of parts say

beats_more : (active p q : List (List ℕ)) → length q < length p → beats active p q ≡ true
beats_more active p q h = rw (lt-ltb (length q) (length p) h) refl

beats_less : (active p q : List (List ℕ)) → length p < length q → beats active p q ≡ false
beats_less active p q h = rw (le-ltb (length q) (length p) (le_of_lt h), ne_eqb (length p) (length q) (λ e. lt_irrefl (length p) (subst (λ n. length p < n) (sym e) h))) refl

beats_equal : (active p q : List (List ℕ)) → length p ≡ length q → beats active p q ≡ is_greater (places active p) (places active q)
beats_equal active p q h = rw (h, le-ltb (length q) (length q) (le_refl (length q)), eq-eqb (length q) (length q) refl) refl

-- parts that beat others aren't beaten by them
pub beats_one_way : (active p q : List (List ℕ)) → beats active p q ≡ true → beats active q p ≡ false
beats_one_way active p q h = elim (compared (length p) (length q)) [
  | less l ↦ not_both (beats active p q) h (beats_less active p q l)
  | equal e ↦ beats_equal active q p (sym e) ∙ greater_one_way (places active p) (places active q) (sym (beats_equal active p q e) ∙ h)
  | more m ↦ beats_less active q p m
]

-- parts that don't beat others, which don't beat third ones, don't beat these
pub beats_through : (active p q r : List (List ℕ)) → beats active p q ≡ false → beats active q r ≡ false → beats active p r ≡ false
beats_through active p q r g h = elim (compared (length p) (length q)) [
  | less a ↦ elim (compared (length q) (length r)) [
    | less b ↦ beats_less active p r (lt_trans a b)
    | equal b ↦ beats_less active p r (subst (λ n. length p < n) b a)
    | more b ↦ not_both (beats active q r) (beats_more active q r b) h
  ]
  | equal a ↦ elim (compared (length q) (length r)) [
    | less b ↦ beats_less active p r (subst (λ n. n < length r) (sym a) b)
    | equal b ↦ beats_equal active p r (a ∙ b) ∙ greater_through (places active p) (places active q) (places active r) (length_places active p ∙ a ∙ sym (length_places active q)) (length_places active q ∙ b ∙ sym (length_places active r)) (sym (beats_equal active p q a) ∙ g) (sym (beats_equal active q r b) ∙ h)
    | more b ↦ not_both (beats active q r) (beats_more active q r b) h
  ]
  | more a ↦ not_both (beats active p q) (beats_more active p q a) g
]

-- no parts beat themselves
pub beats_itself : (active p : List (List ℕ)) → beats active p p ≡ false
beats_itself active p = elim (either_way (beats active p p)) [
  | inl t ↦ beats_one_way active p p t
  | inr f ↦ f
]

-- two active parts of one place are one
place_same : (active : List (List ℕ)) (a b : List ℕ) → is_in a active ≡ true → is_in b active ≡ true → place active a ≡ place active b → a ≡ b
place_same [] a b h k e = not_both false h refl
place_same (piece ∷ pieces) a b h k e = elim (either_way (is_in a pieces)) [
  | inl s ↦ elim (either_way (is_in b pieces)) [
    | inl t ↦ place_same pieces a b s t (let f : suc (place pieces a) ≡ suc (place pieces b) = subst (λ z. (if z then suc (place pieces a) else 0) ≡ suc (place pieces b)) s (subst (λ z. (if is_in a pieces then suc (place pieces a) else 0) ≡ (if z then suc (place pieces b) else 0)) t e) in omega (arith, f))
    | inr t ↦ absurd (let f : suc (place pieces a) ≡ 0 = subst (λ z. (if z then suc (place pieces a) else 0) ≡ 0) s (subst (λ z. (if is_in a pieces then suc (place pieces a) else 0) ≡ (if z then suc (place pieces b) else 0)) t e) in omega (arith, f))
  ]
  | inr s ↦ elim (either_way (is_in b pieces)) [
    | inl t ↦ absurd (let f : 0 ≡ suc (place pieces b) = subst (λ z. (if z then suc (place pieces a) else 0) ≡ suc (place pieces b)) s (subst (λ z. (if is_in a pieces then suc (place pieces a) else 0) ≡ (if z then suc (place pieces b) else 0)) t e) in omega (arith, f))
    | inr t ↦ same_text a piece (in_first a piece pieces h s) ∙ sym (same_text b piece (in_first b piece pieces k t))
  ]
] where
  in_first : (a piece : List ℕ) (pieces : List (List ℕ)) → is_in a (piece ∷ pieces) ≡ true → is_in a pieces ≡ false → bytes_eq a piece ≡ true
  in_first a piece pieces h s = elim (either_way (bytes_eq a piece)) [
    | inl t ↦ t
    | inr f ↦ not_both (is_in a pieces) (from_or (bytes_eq a piece) (is_in a pieces) h f) s
  ]

-- active parts with equal places are equal
places_same : (active p q : List (List ℕ)) → all_active active p ≡ true → all_active active q ≡ true → map (place active) p ≡ map (place active) q → p ≡ q
places_same active [] [] h k e = refl
places_same active [] (b ∷ q) h k e = absurd cc
places_same active (a ∷ p) [] h k e = absurd cc
places_same active (a ∷ p) (b ∷ q) h k e =
    let first : place active a ≡ place active b = cc in
    let rest : map (place active) p ≡ map (place active) q = cc in
    ap (λ z. z ∷ p) (place_same active a b (and_left (is_in a active) (all_active active p) h) (and_left (is_in b active) (all_active active q) k) first)
    ∙ ap (λ z. b ∷ z) (places_same active p q (and_right (is_in a active) (all_active active p) h) (and_right (is_in b active) (all_active active q) k) rest)

-- active parts of which neither beat the others are equal
pub beats_same : (active p q : List (List ℕ)) → all_active active p ≡ true → all_active active q ≡ true → beats active p q ≡ false → beats active q p ≡ false → p ≡ q
beats_same active p q h k f g = elim (compared (length p) (length q)) [
  | less l ↦ not_both (beats active q p) (beats_more active q p l) g
  | equal e ↦ let r = greater_same (places active p) (places active q) (length_places active p ∙ e ∙ sym (length_places active q)) (sym (beats_equal active p q e) ∙ f) (sym (beats_equal active q p (sym e)) ∙ g) in
      places_same active p q h k (sym (reverse-reverse (map (place active) p)) ∙ ap reverse r ∙ reverse-reverse (map (place active) q))
  | more m ↦ not_both (beats active p q) (beats_more active p q m) f
]
