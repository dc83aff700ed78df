-- Where `${` may stand: at a dollar sign.
use Rattle.std.proofs.Common.{◌≡◌, refl, sym, ◌∙◌, ap, arith, ℕ, zero, suc, ◌+◌, ◌<◌, ◌==◌, ◌||◌, Bool, true, false, List, [], ◌∷◌, length, drop, get_or, Option, Some, None, position, codes, add-one, inl, inr}
use Rattle.std.proofs.Math.Seq.{drop-cons, drop-length}
use Rattle.std.proofs.lemmas.List.Quantifiers.{position-Some}
use Rattle.std.proofs.lemmas.Bool.{cases_Bool}
use Rattle.meta_model.proofs.Prefixes.{starts-is}
use Rattle.meta_model.proofs.Unfound.{none_before}
use Rattle.var_expand.proofs.Openings.{not_both}
use Rattle.meta_model.specs.Text.{begins_with, holds}

-- none begins with another sign
unopened : (b : ℕ) (bs : List ℕ) → (b == 36) ≡ false → begins_with (codes "${") (b ∷ bs) ≡ false
unopened b bs f = elim (cases_Bool (begins_with (codes "${") (b ∷ bs))) [
  | inl e ↦ not_both (b == 36) (ap (λ l. get_or l 0 0 == 36) (starts-is (b ∷ bs) (codes "${") e)) f
  | inr e ↦ e
]

-- none stands in front of the first dollar sign
skip : (bs : List ℕ) (i : ℕ) → ((k : ℕ) → k < i → (get_or bs k 0 == 36) ≡ false) → holds (codes "${") bs ≡ holds (codes "${") (drop i bs)
skip bs zero before = refl
skip [] (suc i) before = refl
skip (b ∷ bs) (suc i) before =
    ap (λ here. here || holds (codes "${") bs) (unopened b bs (before 0 (omega arith))) ∙ skip bs i (λ k h. before (suc k) (omega arith))

at_sign : (bs : List ℕ) (i : ℕ) → position (λ b. b == 36) bs ≡ Some i → holds (codes "${") bs ≡ (begins_with (codes "${") (drop i bs) || holds (codes "${") (drop (i + 1) bs))
at_sign bs i e =
    let h = position-Some (λ b. b == 36) bs i 0 e in
    skip bs i h.2 ∙ ap (holds (codes "${")) (drop-cons bs i 0 h.0)
    ∙ ap (λ t. begins_with (codes "${") t || holds (codes "${") (drop (suc i) bs)) (sym (drop-cons bs i 0 h.0))
    ∙ ap (λ j. begins_with (codes "${") (drop i bs) || holds (codes "${") (drop j bs)) (sym (add-one i))

-- it stands there
pub found_at : (bs : List ℕ) (i : ℕ) (b : Bool) → Some i ≡ position (λ b. b == 36) bs → b ≡ begins_with (codes "${") (drop i bs) → b ≡ true → holds (codes "${") bs ≡ true
found_at bs i b e is t = at_sign bs i (sym e) ∙ ap (λ here. here || holds (codes "${") (drop (i + 1) bs)) (sym is ∙ t)

-- it doesn't
pub passed_at : (bs after : List ℕ) (i : ℕ) (b : Bool) → Some i ≡ position (λ b. b == 36) bs → b ≡ begins_with (codes "${") (drop i bs) → b ≡ false → after ≡ drop (i + 1) bs
    → holds (codes "${") bs ≡ holds (codes "${") after
passed_at bs after i b e is f a =
    at_sign bs i (sym e) ∙ ap (λ here. here || holds (codes "${") (drop (i + 1) bs)) (sym is ∙ f) ∙ ap (holds (codes "${")) (sym a)

-- there is no dollar sign
pub found_nowhere : (bs : List ℕ) → None ≡ position (λ b. b == 36) bs → false ≡ holds (codes "${") bs
found_nowhere bs e = sym (skip bs (length bs) (none_before (λ b. b == 36) bs 0 (sym e)) ∙ ap (holds (codes "${")) (drop-length bs))
