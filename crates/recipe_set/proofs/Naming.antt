-- Names of files, cut at their underscores.
use Rattle.std.proofs.Common.{◌≡◌, ◌≢◌, refl, sym, ◌∙◌, ap, ℕ, ◌<◌, suc, arith, List, [], ◌∷◌, length, get_or, Option, Some, None, MatchOption, Bor, ne_eqb, inl, inr}
use Rattle.std.specs.List.{slice_split, after_first}
use Rattle.std.proofs.lemmas.List.Splits.{slice_split_first}
use Rattle.std.proofs.lemmas.Str.Pattern.{IsSplitOnceResult, split_once_first, split_parts}
use Rattle.meta_model.proofs.Bools.{either_way}
use Rattle.load_model.specs.Recipes.{is_underscore, name_of_parts}

uncut : (bs : List ℕ) → ((k : ℕ) → k < length bs → get_or bs k 0 ≢ 95) → slice_split is_underscore bs ≡ bs ∷ []
uncut [] h = refl
uncut (b ∷ bs) h = rw (ne_eqb b 95 (h 0 (omega arith)), uncut bs (λ k lt. h (suc k) (omega arith))) refl

pub cut_parts : (text : List ℕ) (r : Option (Bor (List ℕ) × Bor (List ℕ))) → IsSplitOnceResult 95 text r → MatchOption r (slice_split is_underscore text ≡ text ∷ []) (λ x. slice_split is_underscore text ≡ x.0.now ∷ slice_split is_underscore x.1.now)
cut_parts text None h = uncut text (split_parts 95 text None h (omega arith))
cut_parts text (Some x) h =
    let s = split_once_first 95 text (Some x) h (omega arith) in
    slice_split_first is_underscore text 0 s.0 ∙ ap (λ l. l ∷ slice_split is_underscore (after_first is_underscore text)) (sym s.1) ∙ ap (λ l. x.0.now ∷ slice_split is_underscore l) (sym s.2)

-- there is always a part
shape : (t : List ℕ) → (part : List ℕ) × (parts : List (List ℕ)) × (slice_split is_underscore t ≡ part ∷ parts)
shape [] = ([], [], refl)
shape (c ∷ t) = elim (either_way (is_underscore c)) [
  | inl e ↦ ([], slice_split is_underscore t, rw e refl)
  | inr e ↦ let s = shape t in (c ∷ s.0, s.1, rw (e, s.2) refl)
]

-- four parts and more give no name
pub too_many_parts : (pn pv rest pr more : List ℕ) → slice_split is_underscore rest ≡ pr ∷ slice_split is_underscore more → None ≡ name_of_parts (pn ∷ (pv ∷ slice_split is_underscore rest))
too_many_parts pn pv rest pr more e = let s = shape more in rw (e, s.2) refl
