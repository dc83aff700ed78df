-- Names of which nothing is kept any longer, one after another.
use Rattle.std.proofs.Common.{◌≡◌, refl, sym, ◌∙◌, ap, subst, ℕ, ◌+◌, ◌<◌, length, get_or, take, List, [], ◌∷◌, ◌++◌, Bool, true, false, ◌||◌, cond, Option, Some, None, is_some, bytes_eq}
use Rattle.std.specs.Map.{update}
use Rattle.std.proofs.lemmas.List.{take_more}
use Rattle.meta_model.proofs.Bools.{or_left, or_right}
use Rattle.meta_model.specs.Text.{is_in}
use Rattle.value_maps.specs.declared.named.Named.{Named}
use Rattle.value_maps.specs.Named.{IsAlike}
use Rattle.value_maps.specs.Hidden.{AreEmpty}
use Rattle.value_maps.proofs.Sets.{in_end, eq_turned}

first_of : (a b : Bool) → (a || b) ≡ true → b ≡ false → a ≡ true
first_of true b h e = refl
first_of false b h e = absurd cc

-- one of the names, or one before it
more_in : (xs : List (List ℕ)) (i : ℕ) (x t : List ℕ) → x ≡ get_or xs i x → i < length xs → is_in t (take (i + 1) xs) ≡ (is_in t (take i xs) || bytes_eq x t)
more_in xs i x t is lt =
    ap (is_in t) (take_more xs i x lt ∙ ap (λ z. take i xs ++ z ∷ []) (sym is)) ∙ in_end t x (take i xs) ∙ ap (λ b. is_in t (take i xs) || b) (sym (eq_turned x t))

module _ (old now after : List ℕ → Option Named) (xs : List (List ℕ)) (i : ℕ) (x : List ℕ) (w : Named) (before : AreEmpty old now (take i xs)) (alike : IsAlike None (Some w)) where
  there_at : (t : List ℕ) (b : Bool) → (is_in t (take i xs) || b) ≡ true → is_some (cond b (Some w) (now t)) ≡ true
  there_at t true h = refl
  there_at t false h = before.there t (first_of (is_in t (take i xs)) false h refl)

  none_at : (t : List ℕ) (b : Bool) → (is_in t (take i xs) || b) ≡ true → IsAlike None (cond b (Some w) (now t))
  none_at t true h = alike
  none_at t false h = before.none t (first_of (is_in t (take i xs)) false h refl)

  others_at : (t : List ℕ) (b : Bool) → (is_in t (take i xs) || b) ≡ false → cond b (Some w) (now t) ≡ old t
  others_at t true h = let e : true ≡ false = or_right (is_in t (take i xs)) true h in absurd cc
  others_at t false h = before.others t (or_left (is_in t (take i xs)) false h)

  -- of one more name nothing is kept
  pub empty_turn : ((q : List ℕ) → after q ≡ update bytes_eq now x (Some w) q) → x ≡ get_or xs i x → i < length xs → AreEmpty old after (take (i + 1) xs)
  empty_turn u is lt = record {
    there = λ t h. ap is_some (u t) ∙ there_at t (bytes_eq x t) (sym (more_in xs i x t is lt) ∙ h);
    none = λ t h. subst (IsAlike None) (sym (u t)) (none_at t (bytes_eq x t) (sym (more_in xs i x t is lt) ∙ h));
    others = λ t h. u t ∙ others_at t (bytes_eq x t) (sym (more_in xs i x t is lt) ∙ h);
  }
