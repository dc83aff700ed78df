-- Words that name tasks.
use Rattle.std.proofs.Common.{◌≡◌, ◌≢◌, refl, ◌∙◌, ap, ℕ, suc, ◌<◌, arith, List, [], ◌∷◌, ◌++◌, length, get_or, Option, Some, None, MatchOption, Bor, ne_eqb}
use Rattle.std.proofs.lemmas.Str.Pattern.{IsSplitOnceResult, split_parts}
use Rattle.meta_model.specs.Text.{colon, split_at_first}

uncut : (bs : List ℕ) → ((k : ℕ) → k < length bs → get_or bs k 0 ≢ colon) → split_at_first colon bs ≡ None
uncut [] h = refl
uncut (b ∷ bs) h = rw (ne_eqb b colon (h 0 (omega arith)), uncut bs (λ k lt. h (suc k) (omega arith))) refl

cut_here : (front behind : List ℕ) → ((k : ℕ) → k < length front → get_or front k 0 ≢ colon) → split_at_first colon (front ++ colon ∷ behind) ≡ Some (front, behind)
cut_here [] behind h = refl
cut_here (b ∷ front) behind h = rw (ne_eqb b colon (h 0 (omega arith)), cut_here front behind (λ k lt. h (suc k) (omega arith))) refl

pub cut_first : (word : List ℕ) (r : Option (Bor (List ℕ) × Bor (List ℕ))) → IsSplitOnceResult colon word r → MatchOption r (split_at_first colon word ≡ None) (λ x. split_at_first colon word ≡ Some (x.0.now, x.1.now))
cut_first word None h = uncut word (split_parts colon word None h (omega arith))
cut_first word (Some x) h = let p = split_parts colon word (Some x) h (omega arith) in ap (split_at_first colon) p.0 ∙ cut_here x.0.now x.1.now p.1
