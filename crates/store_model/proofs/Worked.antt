-- Lists and paths of worked rows.
use Rattle.std.proofs.Common.{◌≡◌, ◌≤◌, ◌<◌, ◌∙◌, sym, ap, subst, ℕ, zero, suc, arith, false, List, [], ◌∷◌, Option, Some, None, length}
use Rattle.std.specs.Prelude.{All, Contains, ◌==◌}
use Rattle.std.specs.List.{AllByRecursion, slice_get}
use Rattle.std.specs.Str.{bytes_eq}
use Rattle.std.proofs.lemmas.List.Elements.{All-cons, All-nil}
use Rattle.tree_model.specs.Path.{IsBelow, IsPart}
use Rattle.store_model.proofs.Listing.{hash_other}

-- what holds of each item holds of all
pub all_of : {A : Type 0} (P : A → Type 0) (xs : List A) → AllByRecursion P xs → All P xs
all_of P [] all = All-nil P
all_of P (x ∷ xs) all = All-cons P x xs all.0 (all_of P xs all.1)

-- ... and of any one
pub each : {A : Type 0} (P : A → Type 0) (xs : List A) → AllByRecursion P xs → (x : A) → Contains xs x → P x
each P [] all x (k, lt, at) = absurd (omega arith)
each P (y ∷ ys) all x (zero, lt, at) = subst P at all.0
each P (y ∷ ys) all x (suc k, lt, at) = each P ys all.1 x (k, omega arith, at)

-- texts that differ at a place
pub not_same : (a b : List ℕ) (i : ℕ) (x y : Option ℕ) → slice_get a i ≡ x → slice_get b i ≡ y → (x ≡ y → ⊥) → a ≡ b → ⊥
not_same a b i x y p q other e = other (sym p ∙ ap (λ l. slice_get l i) e ∙ q)

-- behind the end there is no slash
pub end_not_slash : ◌≡◌ {A = Option ℕ} None (Some 47) → ⊥
end_not_slash e = absurd (cc)

-- a text of three bytes or more, none of them zero, is a part of a path
pub is_part : (text : List ℕ) → 2 < length text → length text ≤ 255 → AllByRecursion (λ c. (c == 0) ≡ false) text → IsPart text
is_part text long short plain = record {
  not_empty = omega (arith, long);
  short = short;
  not_here = λ e. let same : length text ≡ 1 = ap length e in absurd (omega (arith, same, long));
  not_above = λ e. let same : length text ≡ 2 = ap length e in absurd (omega (arith, same, long));
  no_zero = λ among. let not = each (λ c. (c == 0) ≡ false) text plain 0 among in absurd (cc);
}

-- a path above a folder is none that isn't
pub not_above : (folder place path : List ℕ) → (IsBelow place folder → ⊥) → IsBelow path folder → bytes_eq place path ≡ false
not_above folder place path other below = hash_other (record { bytes = place }) (record { bytes = path }) (λ e. other (subst (λ p. IsBelow p folder) (sym (ap (λ h. h.bytes) e)) below))
