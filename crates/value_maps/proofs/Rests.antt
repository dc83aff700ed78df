-- What one key's change makes of the noted texts.
use Rattle.std.proofs.Common.{◌≡◌, refl, sym, ◌∙◌, ap, subst, ℕ, Bool, true, false, cond, List, [], ◌∷◌, ◌++◌, Option, Some, None, bytes_eq, inl, inr, Result, Ok, Err, OnOk, OnErr}
use Rattle.std.specs.Global.{Vec}
use Rattle.std.specs.Map.{update}
use Rattle.meta_model.specs.Text.{is_in}
use Rattle.meta_model.proofs.Bools.{either_way, same_text, text_itself, not_both, or_first, or_second, from_or}
use Rattle.value_maps.specs.Forms.{rests, KeepsRests}

-- what stands in a list stands in a longer one
pub in_more : (t : List ℕ) (list more : List (List ℕ)) → is_in t list ≡ true → is_in t (list ++ more) ≡ true
in_more t [] more h = not_both false h refl
in_more t (x ∷ list) more h = elim (either_way (bytes_eq t x)) [
  | inl e ↦ or_first (bytes_eq t x) (is_in t (list ++ more)) e
  | inr e ↦ or_second (bytes_eq t x) (is_in t (list ++ more)) e (in_more t list more (from_or (bytes_eq t x) (is_in t list) h e))
]

-- and so does what is put at its end
pub in_last : (t : List ℕ) (list : List (List ℕ)) → is_in t (list ++ t ∷ []) ≡ true
in_last t [] = or_first (bytes_eq t t) false (text_itself t)
in_last t (x ∷ list) = elim (either_way (bytes_eq t x)) [
  | inl e ↦ or_first (bytes_eq t x) (is_in t (list ++ t ∷ [])) e
  | inr e ↦ or_second (bytes_eq t x) (is_in t (list ++ t ∷ [])) e (in_last t list)
]

kept_at : (f : List ℕ → Option (Vec (List ℕ))) (k q t : List ℕ) (w : Vec (List ℕ)) (b : Bool) → bytes_eq k q ≡ b → (is_in t (rests (f k)) ≡ true → is_in t w.items ≡ true) → is_in t (rests (f q)) ≡ true → is_in t (rests (cond b (Some w) (f q))) ≡ true
kept_at f k q t w true h keep i = keep (subst (λ n. is_in t (rests (f n)) ≡ true) (sym (same_text k q h)) i)
kept_at f k q t w false h keep i = i

pub rests_kept : (f g : List ℕ → Option (Vec (List ℕ))) (k : List ℕ) (w : Vec (List ℕ)) → ((q : List ℕ) → g q ≡ update bytes_eq f k (Some w) q) → ((t : List ℕ) → is_in t (rests (f k)) ≡ true → is_in t w.items ≡ true)
    → KeepsRests (λ name. rests (f name)) (λ name. rests (g name))
rests_kept f g k w u keep q t i = subst (λ o. is_in t (rests o) ≡ true) (sym (u q)) (kept_at f k q t w (bytes_eq k q) refl (keep t) i)

-- what is found at the key that changed
pub found_here : {A : Type 0} (f g : List ℕ → Option A) (k : List ℕ) (w : Option A) → ((q : List ℕ) → g q ≡ update bytes_eq f k w q) → g k ≡ w
found_here f g k w u = u k ∙ ap (λ b. cond b w (f k)) (text_itself k)

-- no text is lost where another is put behind those at a name
pub rests_more : {T E : Type 0} (f g : List ℕ → Option (Vec (List ℕ))) (k : List ℕ) (old w : Vec (List ℕ)) (x : List ℕ) (r : Result T E) → ((q : List ℕ) → g q ≡ update bytes_eq f k (Some w) q) → f k ≡ Some old
    → OnOk r (w.items ≡ old.items ++ x ∷ []) → OnErr r (w.items ≡ old.items) → KeepsRests (λ name. rests (f name)) (λ name. rests (g name))
rests_more f g k old w x (Ok a) u found more same =
    rests_kept f g k w u (λ t i. subst (λ l. is_in t l ≡ true) (sym more) (in_more t old.items (x ∷ []) (subst (λ l. is_in t l ≡ true) (ap rests found) i)))
rests_more f g k old w x (Err e) u found more same = rests_kept f g k w u (λ t i. subst (λ l. is_in t l ≡ true) (ap rests found ∙ sym same) i)

-- nor where the first is put at a name
pub rests_first : {T E : Type 0} (f g : List ℕ → Option (Vec (List ℕ))) (k : List ℕ) (w : Vec (List ℕ)) (r : Result T E) → f k ≡ None
    → OnOk r ((q : List ℕ) → g q ≡ update bytes_eq f k (Some w) q) → OnErr r ((q : List ℕ) → g q ≡ f q) → KeepsRests (λ name. rests (f name)) (λ name. rests (g name))
rests_first f g k w (Ok a) found u same = rests_kept f g k w u (λ t i. not_both (is_in t (rests (f k))) i (ap (λ o. is_in t (rests o)) found))
rests_first f g k w (Err e) found u same = λ q t i. subst (λ o. is_in t (rests o) ≡ true) (sym (same q)) i
