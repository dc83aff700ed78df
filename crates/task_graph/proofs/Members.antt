-- Elements of lists that are made of others.
use Rattle.std.proofs.Common.{◌≡◌, sym, ◌∙◌, ap, subst, refl, ℕ, zero, suc, Bool, true, false, ◌||◌, List, [], ◌∷◌, ◌++◌, filter, Some, None, Option, ◌⊎◌, inl, inr, bytes_eq}
use Rattle.std.specs.List.{list_any, flat_map, filter_map}
use Rattle.std.specs.Cmp.Lexicographic.{bytes_decides}
use Rattle.meta_model.specs.Text.{is_in}
use Rattle.graph_walk.specs.Frontier.{Has}

module _ {A : Type 0} where
  pub has_next : (x y : A) (xs : List A) → Has xs x → Has (y ∷ xs) x
  has_next x y xs (k, e) = (suc k, e)

  pub has_left : (xs ys : List A) (x : A) → Has xs x → Has (xs ++ ys) x
  has_left [] ys x (k, e) = absurd cc
  has_left (z ∷ zs) ys x (zero, e) = (0, e)
  has_left (z ∷ zs) ys x (suc k, e) = has_next x z (zs ++ ys) (has_left zs ys x (k, e))

  pub has_right : (xs ys : List A) (x : A) → Has ys x → Has (xs ++ ys) x
  has_right [] ys x h = h
  has_right (z ∷ zs) ys x h = has_next x z (zs ++ ys) (has_right zs ys x h)

  pub has_either : (xs ys : List A) (x : A) → Has (xs ++ ys) x → Has xs x ⊎ Has ys x
  has_either [] ys x h = inr h
  has_either (z ∷ zs) ys x (zero, e) = inl (0, e)
  has_either (z ∷ zs) ys x (suc k, e) = elim (has_either zs ys x (k, e)) [ inl h ↦ inl (suc h.0, h.1) | inr h ↦ inr h ]

  -- a test that some element passes
  pub any_has : (p : A → Bool) (xs : List A) (x : A) → Has xs x → p x ≡ true → list_any p xs ≡ true
  any_has p [] x (k, e) t = absurd cc
  any_has p (y ∷ ys) x (zero, e) t = let same : y ≡ x = cc in let here : p y ≡ true = ap p same ∙ t in rw here refl
  any_has p (y ∷ ys) x (suc k, e) t = by_first (p y) (any_has p ys x (k, e) t)
    where
      by_first : (b : Bool) → list_any p ys ≡ true → (b || list_any p ys) ≡ true
      by_first true later = refl
      by_first false later = later

  pub has_any : (p : A → Bool) (xs : List A) → list_any p xs ≡ true → (x : A) × Has xs x × (p x ≡ true)
  has_any p [] e = absurd cc
  has_any p (y ∷ ys) e = by_first (p y) refl (has_any p ys)
    where
      by_first : (b : Bool) → p y ≡ b → (list_any p ys ≡ true → (x : A) × Has ys x × (p x ≡ true)) → (x : A) × Has (y ∷ ys) x × (p x ≡ true)
      by_first true t later = (y, (0, refl), t)
      by_first false t later = let rest = later (rw t at e) in (rest.0, has_next rest.0 y ys rest.1, rest.2)

  -- those that pass a test
  pub has_filter : (p : A → Bool) (xs : List A) (x : A) → Has (filter p xs) x → Has xs x × (p x ≡ true)
  has_filter p [] x (k, e) = absurd cc
  has_filter p (y ∷ ys) x h = by_first (p y) refl (has_filter p ys x)
    where
      in_rest : (Has (filter p ys) x → Has ys x × (p x ≡ true)) → p y ≡ true → Has (y ∷ filter p ys) x → Has (y ∷ ys) x × (p x ≡ true)
      in_rest later t (zero, e) = let same : y ≡ x = cc in ((0, e), sym (ap p same) ∙ t)
      in_rest later t (suc k, e) = let rest = later (k, e) in (has_next x y ys rest.0, rest.1)

      by_first : (b : Bool) → p y ≡ b → (Has (filter p ys) x → Has ys x × (p x ≡ true)) → Has (y ∷ ys) x × (p x ≡ true)
      by_first true t later = in_rest later t (rw t at h)
      by_first false t later = let rest = later (rw t at h) in (has_next x y ys rest.0, rest.1)

  pub filter_has : (p : A → Bool) (xs : List A) (x : A) → Has xs x → p x ≡ true → Has (filter p xs) x
  filter_has p [] x (k, e) t = absurd cc
  filter_has p (y ∷ ys) x (zero, e) t = let same : y ≡ x = cc in let here : p y ≡ true = ap p same ∙ t in rw here (0, e)
  filter_has p (y ∷ ys) x (suc k, e) t = by_first (p y) refl (filter_has p ys x (k, e) t)
    where
      by_first : (b : Bool) → p y ≡ b → Has (filter p ys) x → Has (filter p (y ∷ ys)) x
      by_first true f later = rw f (has_next x y (filter p ys) later)
      by_first false f later = rw f later

module _ {A B : Type 0} where
  pub has_filter_map : (f : A → Option B) (xs : List A) (y : B) → Has (filter_map f xs) y → (x : A) × Has xs x × (f x ≡ Some y)
  has_filter_map f [] y (k, e) = absurd cc
  has_filter_map f (x ∷ xs) y h = by_first (f x) refl (has_filter_map f xs y)
    where
      in_rest : (z : B) → f x ≡ Some z → (Has (filter_map f xs) y → (w : A) × Has xs w × (f w ≡ Some y)) → Has (z ∷ filter_map f xs) y → (w : A) × Has (x ∷ xs) w × (f w ≡ Some y)
      in_rest z e later (zero, g) = (x, (0, refl), e ∙ g)
      in_rest z e later (suc k, g) = let rest = later (k, g) in (rest.0, has_next rest.0 x xs rest.1, rest.2)

      by_first : (o : Option B) → f x ≡ o → (Has (filter_map f xs) y → (w : A) × Has xs w × (f w ≡ Some y)) → (w : A) × Has (x ∷ xs) w × (f w ≡ Some y)
      by_first (Some z) e later = in_rest z e later (rw e at h)
      by_first None e later = let rest = later (rw e at h) in (rest.0, has_next rest.0 x xs rest.1, rest.2)

  pub filter_map_has : (f : A → Option B) (xs : List A) (x : A) (y : B) → Has xs x → f x ≡ Some y → Has (filter_map f xs) y
  filter_map_has f [] x y (k, e) g = absurd cc
  filter_map_has f (z ∷ zs) x y (zero, e) g = let same : z ≡ x = cc in let here : f z ≡ Some y = ap f same ∙ g in rw here (0, refl)
  filter_map_has f (z ∷ zs) x y (suc k, e) g = by_first (f z) refl (filter_map_has f zs x y (k, e) g)
    where
      by_first : (o : Option B) → f z ≡ o → Has (filter_map f zs) y → Has (filter_map f (z ∷ zs)) y
      by_first (Some w) h later = rw h (has_next y w (filter_map f zs) later)
      by_first None h later = rw h later

  pub has_flat_map : (f : A → List B) (xs : List A) (y : B) → Has (flat_map f xs) y → (x : A) × Has xs x × Has (f x) y
  has_flat_map f [] y (k, e) = absurd cc
  has_flat_map f (x ∷ xs) y h = elim (has_either (f x) (flat_map f xs) y h) [
    | inl here ↦ (x, (0, refl), here)
    | inr later ↦ let rest = has_flat_map f xs y later in (rest.0, has_next rest.0 x xs rest.1, rest.2)
  ]

  pub flat_map_has : (f : A → List B) (xs : List A) (x : A) (y : B) → Has xs x → Has (f x) y → Has (flat_map f xs) y
  flat_map_has f [] x y (k, e) h = absurd cc
  flat_map_has f (z ∷ zs) x y (zero, e) h = let same : z ≡ x = cc in has_left (f z) (flat_map f zs) y (subst (λ w. Has (f w) y) (sym same) h)
  flat_map_has f (z ∷ zs) x y (suc k, e) h = has_right (f z) (flat_map f zs) y (flat_map_has f zs x y (k, e) h)

-- texts
pub text_has : (xs : List (List ℕ)) (x : List ℕ) → is_in x xs ≡ true → Has xs x
text_has xs x e = let found = has_any (bytes_eq x) xs e in subst (Has xs) (sym ((bytes_decides x found.0).0 found.2)) found.1

pub has_text : (xs : List (List ℕ)) (x : List ℕ) → Has xs x → is_in x xs ≡ true
has_text xs x h = any_has (bytes_eq x) xs x h ((bytes_decides x x).1 refl)
