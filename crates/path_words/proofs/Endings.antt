-- Texts without their endings.
use Rattle.std.proofs.Common.{◌≡◌, refl, sym, ◌∙◌, ap, subst, ℕ, ◌+◌, ◌-◌, ◌≤◌, arith, List, length, take, true, false, Option, Some, None, MatchOption, Bor}
use Rattle.std.specs.Str.{IsCharBoundary}
use Rattle.std.specs.Str.Pattern.{FindsTextSuffix}
use Rattle.std.proofs.lemmas.Str.Pattern.{ends_text}
use Rattle.load_model.specs.Paths.{without_ending}

-- what is left of a text where its ending is stripped, or where it isn't there
abbrev pub left_of : List ℕ → Option (Bor (List ℕ)) → List ℕ
left_of text None = text
left_of text (Some x) = x.now

pub cut_ending : (ending text : List ℕ) (r : Option (Bor (List ℕ))) → MatchOption r (FindsTextSuffix ending text None) (λ x. (n : ℕ) × FindsTextSuffix ending text (Some n) × (x.now ≡ take (length text - n) text) × (length x.now + n ≡ length text))
    → left_of text r ≡ without_ending ending text
cut_ending ending text None h = rw (sym (ends_text false ending text h)) refl
cut_ending ending text (Some x) h =
    let whole : h.0 ≤ length text = omega (arith, h.3) in
    rw (sym (ends_text true ending text (h.0, h.1, whole, subst (λ k. IsCharBoundary text (length text - k)) (sym h.1.0) h.1.2))) (h.2 ∙ ap (λ k. take (length text - k) text) h.1.0)
