-- Sets of names.
use Rattle.std.proofs.Common.{◌≡◌, refl, sym, subst, ◌∙◌, ap, inl, inr, ◌+◌, ◌<◌, length, get_or, take, ℕ, List, [], ◌∷◌, ◌++◌, Bool, true, false, not, ◌||◌, ◌&&◌, cond, Option, Some, None, is_some, bytes_eq, Result, Ok, Err, OnErr}
use Rattle.std.specs.Map.{update}
use Rattle.std.proofs.lemmas.List.{take_more}
use Rattle.meta_model.proofs.Bools.{either_way, same_text, differs}
use Rattle.meta_model.specs.Text.{is_in}

put_at : {A : Type 0} (b : Bool) (w : A) (x : Option A) → is_some (cond b (Some w) x) ≡ (b || is_some x)
put_at true w x = refl
put_at false w x = refl

-- a name is put in
pub some_put : {A : Type 0} (f g : List ℕ → Option A) (k : List ℕ) (w : A) → ((q : List ℕ) → g q ≡ update bytes_eq f k (Some w) q) → (q : List ℕ) → is_some (g q) ≡ (bytes_eq k q || is_some (f q))
some_put f g k w u q = ap is_some (u q) ∙ put_at (bytes_eq k q) w (f q)

drop_at : {A : Type 0} (b : Bool) (x : Option A) → is_some (cond b None x) ≡ (not b && is_some x)
drop_at true x = refl
drop_at false x = refl

-- a name is taken out
pub some_drop : {A : Type 0} (f g : List ℕ → Option A) (k : List ℕ) → ((q : List ℕ) → g q ≡ update bytes_eq f k None q) → (q : List ℕ) → is_some (g q) ≡ (not (bytes_eq k q) && is_some (f q))
some_drop f g k u q = ap is_some (u q) ∙ drop_at (bytes_eq k q) (f q)

-- one more name of a list
pub in_end : (t x : List ℕ) (xs : List (List ℕ)) → is_in t (xs ++ x ∷ []) ≡ (is_in t xs || bytes_eq t x)
in_end t x [] = or_none (bytes_eq t x)
  where
    or_none : (b : Bool) → (b || false) ≡ b
    or_none true = refl
    or_none false = refl
in_end t x (y ∷ xs) = ap (λ b. bytes_eq t y || b) (in_end t x xs) ∙ or_assoc (bytes_eq t y) (is_in t xs) (bytes_eq t x)
  where
    or_assoc : (a b c : Bool) → (a || (b || c)) ≡ ((a || b) || c)
    or_assoc true b c = refl
    or_assoc false b c = refl

pub eq_turned : (a b : List ℕ) → bytes_eq a b ≡ bytes_eq b a
eq_turned a b = elim (either_way (bytes_eq a b)) [
  | inl e ↦ subst (λ t. bytes_eq a t ≡ bytes_eq t a) (same_text a b e) refl
  | inr e ↦ e ∙ sym (differs a b e)
]

-- what holds always, holds where there is an error
pub on_err : {T E P : Type 0} (r : Result T E) → P → OnErr r P
on_err (Ok x) p = tt
on_err (Err e) p = p

-- one more name of a list is put in
pub set_turn : (xs : List (List ℕ)) (i : ℕ) (x t : List ℕ) (old : Bool) {now : Bool} → x ≡ get_or xs i x → i < length xs → now ≡ (bytes_eq x t || (is_in t (take i xs) || old)) → now ≡ (is_in t (take (i + 1) xs) || old)
set_turn xs i x t old is lt e =
    e ∙ ap (λ b. b || (is_in t (take i xs) || old)) (eq_turned x t) ∙ sym (ap (λ l. is_in t l || old) (take_more xs i x lt ∙ ap (λ z. take i xs ++ z ∷ []) (sym is)) ∙ ap (λ b. b || old) (in_end t x (take i xs)) ∙ turned (is_in t (take i xs)) (bytes_eq t x) old)
  where
    turned : (a b c : Bool) → ((a || b) || c) ≡ (b || (a || c))
    turned true true c = refl
    turned true false c = refl
    turned false b c = refl

-- one more name of a list is there
pub there_turn : (xs : List (List ℕ)) (i : ℕ) (x t : List ℕ) {now : Bool} → x ≡ get_or xs i x → i < length xs → now ≡ (bytes_eq x t || is_in t (take i xs)) → now ≡ is_in t (take (i + 1) xs)
there_turn xs i x t is lt e =
    e ∙ ap (λ b. b || is_in t (take i xs)) (eq_turned x t) ∙ turned (bytes_eq t x) (is_in t (take i xs)) ∙ sym (ap (is_in t) (take_more xs i x lt ∙ ap (λ z. take i xs ++ z ∷ []) (sym is)) ∙ in_end t x (take i xs))
  where
    turned : (a b : Bool) → (a || b) ≡ (b || a)
    turned true true = refl
    turned true false = refl
    turned false true = refl
    turned false false = refl
