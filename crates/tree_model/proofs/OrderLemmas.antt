-- The order of paths by their bytes.
use Rattle.std.proofs.Common.{◌≡◌, ◌∙◌, ◌⊎◌, inl, inr, sym, ap, subst, refl, ℕ, List, [], ◌∷◌, ◌++◌, false, arith, append-nil}
use Rattle.std.specs.declared.cmp.Ordering.{Ordering}
use Rattle.std.specs.declared.cmp.Ordering.TheVariants.{Less, Equal, Greater}
use Rattle.std.specs.Ordering.{nat_cmp, is_lt, is_eq, ordering_then, ordering_reverse}
use Rattle.std.specs.Cmp.Lexicographic.{slice_cmp, texts_ties}
use Rattle.std.proofs.lemmas.Cmp.{nat_list_cmp_total, nat_cmp_total, tied_itself}
use Rattle.std.proofs.lemmas.Slice.Eq.{bytes_eq-Decides}
use Rattle.std.proofs.lemmas.Bool.Decides.{nat_tests}
use Rattle.tree_model.specs.Path.{IsBelow, IsAtOrBelow, BeginsWith, IsBefore, IsUpTo, inside}
use Rattle.tree_model.specs.Tree.{Precedes}

-- no path comes before itself
pub before_itself : (a : List ℕ) → IsBefore a a → ⊥
before_itself a h = let e = tied_itself nat_list_cmp_total a in cc

pub before_trans : (a b c : List ℕ) → IsBefore a b → IsBefore b c → IsBefore a c
before_trans a b c h g = nat_list_cmp_total.trans a b c h g

-- what comes before another comes up to it
pub up_to_from_before : (a b : List ℕ) → IsBefore a b → IsUpTo a b
up_to_from_before a b h = ap is_lt (nat_list_cmp_total.antisymm b a ∙ ap ordering_reverse h)

pub up_to_itself : (a : List ℕ) → IsUpTo a a
up_to_itself a = ap is_lt (tied_itself nat_list_cmp_total a)

-- paths that tie are the same
pub same_from_tie : (a b : List ℕ) → slice_cmp nat_cmp a b ≡ Equal → a ≡ b
same_from_tie a b h = (bytes_eq-Decides a b).0 (texts_ties a b ∙ ap is_eq h)

up_to_cases_of : (a b : List ℕ) (o : Ordering) → slice_cmp nat_cmp a b ≡ o → is_lt (ordering_reverse o) ≡ false → (a ≡ b) ⊎ IsBefore a b
up_to_cases_of a b Less h g = inr h
up_to_cases_of a b Equal h g = inl (same_from_tie a b h)
up_to_cases_of a b Greater h g = absurd (cc)

-- what comes up to another is it or comes before it
pub up_to_cases : (a b : List ℕ) → IsUpTo a b → (a ≡ b) ⊎ IsBefore a b
up_to_cases a b h = up_to_cases_of a b (slice_cmp nat_cmp a b) refl (sym (ap is_lt (nat_list_cmp_total.antisymm b a)) ∙ h)

pub not_before_back : (a b : List ℕ) → IsUpTo a b → IsBefore b a → ⊥
not_before_back a b h g = let e = ap is_lt g in cc

-- what lies below a path comes after it
pub before_below : (a b : List ℕ) → IsBelow a b → IsBefore a b
before_below a b h = let P : List ℕ → Type 0 = λ z. IsBefore a z in subst P (sym h.1) (front a h.0)
  where
    front : (a rest : List ℕ) → slice_cmp nat_cmp a (inside a rest) ≡ Less
    front [] rest = refl
    front (x ∷ a) rest = let e = tied_itself nat_cmp_total x in ap (λ o. ordering_then o (slice_cmp nat_cmp a (inside a rest))) e ∙ front a rest

heads : (x y : ℕ) (o p : Ordering) → is_lt (ordering_then (nat_cmp y x) o) ≡ false → is_lt (ordering_then (nat_cmp x y) p) ≡ false → (x ≡ y) × (is_lt o ≡ false) × (is_lt p ≡ false)
heads x y o p h g = grind (arith, nat_tests)

-- what stands between a path and a text that begins with it begins with it too
pub begins_between : (a b c rest : List ℕ) → IsUpTo a b → IsUpTo b c → c ≡ a ++ rest → BeginsWith a b
begins_between [] b c rest ab bc e = (b, refl)
begins_between (x ∷ a) [] c rest ab bc e = absurd (cc)
begins_between (x ∷ a) (y ∷ b) c rest ab bc e =
    let P : List ℕ → Type 0 = λ z. IsUpTo (y ∷ b) z in
    let h = heads x y (slice_cmp nat_cmp b a) (slice_cmp nat_cmp (a ++ rest) b) ab (subst P e bc) in
    let t = begins_between a b (a ++ rest) rest h.1 h.2 refl in
    (t.0, λ i. sym h.0 i ∷ t.1 i)

pub begins_at_or_below : (a b : List ℕ) → IsAtOrBelow a b → BeginsWith a b
begins_at_or_below a b (inl e) = ([], e ∙ sym (append-nil a))
begins_at_or_below a b (inr h) = (47 ∷ h.0, h.1)

-- of two paths in order of which the second isn't at the first or below it, the first precedes the second
pub precedes_apart : (a b : List ℕ) → IsUpTo a b → (IsAtOrBelow a b → ⊥) → Precedes a b
precedes_apart a b up other = record {
  before = by (up_to_cases a b up);
  not_above = λ h. other (inr h);
  not_below = λ h. not_before_back a b up (before_below b a h);
}
  where
    by : (a ≡ b) ⊎ IsBefore a b → IsBefore a b
    by (inl e) = absurd (other (inl (sym e)))
    by (inr h) = h

-- a path comes up to each that begins with it
pub up_to_longer : (a rest : List ℕ) → IsUpTo a (a ++ rest)
up_to_longer [] [] = refl
up_to_longer [] (y ∷ rest) = refl
up_to_longer (x ∷ a) rest = ap (λ o. is_lt (ordering_then o (slice_cmp nat_cmp (a ++ rest) a))) (tied_itself nat_cmp_total x) ∙ up_to_longer a rest

-- what comes before a prefix comes before nothing that begins with it
pub not_before_longer : (b prefix rest : List ℕ) → IsBefore b prefix → b ≡ prefix ++ rest → ⊥
not_before_longer b prefix rest h e =
    let P : List ℕ → Type 0 = λ z. IsUpTo prefix z in
    not_before_back prefix b (subst P (sym e) (up_to_longer prefix rest)) h
