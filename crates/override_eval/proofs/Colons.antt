-- Where a text is cut at its first colon.
use Rattle.std.proofs.Common.{◌≡◌, ◌≢◌, refl, ap, sym, ◌∙◌, ℕ, ◌<◌, suc, arith, List, [], ◌∷◌, length, get_or, Some, None, Option, MatchOption, Bor, ne_eqb}
use Rattle.std.specs.List.{slice_split, after_first}
use Rattle.std.proofs.lemmas.List.Splits.{slice_split_first}
use Rattle.std.proofs.lemmas.Str.Pattern.{IsSplitOnceResult, split_once_first, split_parts}
use Rattle.meta_model.specs.Text.{colon, is_colon}

uncut : (bs : List ℕ) → ((k : ℕ) → k < length bs → get_or bs k 0 ≢ colon) → slice_split is_colon bs ≡ bs ∷ []
uncut [] h = refl
uncut (b ∷ bs) h = rw (ne_eqb b colon (h 0 (omega arith)), uncut bs (λ k lt. h (suc k) (omega arith))) refl

pub cut_parts : (text : List ℕ) (r : Option (Bor (List ℕ) × Bor (List ℕ))) → IsSplitOnceResult colon text r → MatchOption r (slice_split is_colon text ≡ text ∷ []) (λ x. slice_split is_colon text ≡ x.0.now ∷ slice_split is_colon x.1.now)
cut_parts text None h = uncut text (split_parts colon text None h (omega arith))
cut_parts text (Some x) h =
    let s = split_once_first colon text (Some x) h (omega arith) in
    slice_split_first is_colon text 0 s.0 ∙ ap (λ l. l ∷ slice_split is_colon (after_first is_colon text)) (sym s.1) ∙ ap (λ l. x.0.now ∷ slice_split is_colon l) (sym s.2)
