-- Where Python stands in a text.
use Rattle.std.proofs.Common.{◌≡◌, refl, sym, ◌∙◌, ap, subst, ℕ, ◌+◌, ◌-◌, ◌<◌, Bool, true, false, not, ◌&&◌, ◌||◌, List, length, take, drop, codes}
use Rattle.std.proofs.lemmas.List.{drop_more, take_rest}
use Rattle.meta_model.specs.Text.{begins_with}
use Rattle.meta_model.specs.Statements.{begins_form, holds_python}

-- whether Python begins at the front
abbrev begins_python : List ℕ → Bool
begins_python text = begins_with (codes "${@") text && not (begins_form text)

at_front : (text : List ℕ) (i : ℕ) → i < length text → holds_python (drop i text) ≡ (begins_python (drop i text) || holds_python (drop (i + 1) text))
at_front text i lt =
    let e = drop_more text i 0 lt in
    ap holds_python e ∙ ap (λ t. begins_python t || holds_python (drop (i + 1) text)) (sym e)

-- where none begins at a place, what stands behind the place decides
further : (text bytes : List ℕ) (i : ℕ) → bytes ≡ text → i < length bytes → begins_python (drop i text) ≡ false → holds_python (drop i text) ≡ holds_python (drop (i + 1) text)
further text bytes i is lt e = at_front text i (subst (λ t. i < length t) is lt) ∙ ap (λ b. b || holds_python (drop (i + 1) text)) e

-- none begins where `${@` doesn't stand
pub not_begun : (text bytes : List ℕ) (i : ℕ) (b : Bool) → bytes ≡ text → i < length bytes → b ≡ begins_with (codes "${@") (take (length bytes - i) (drop i bytes)) → b ≡ false
    → holds_python (drop i text) ≡ holds_python (drop (i + 1) text)
not_begun text bytes i b is lt e f =
    let none : begins_with (codes "${@") (drop i text) ≡ false = ap (λ t. begins_with (codes "${@") (drop i t)) (sym is) ∙ ap (begins_with (codes "${@")) (sym (take_rest bytes i)) ∙ sym e ∙ f in
    further text bytes i is lt (ap (λ front. front && not (begins_form (drop i text))) none)

no_python : (front form : Bool) → form ≡ true → (front && not form) ≡ false
no_python true form h = ap not h
no_python false form h = refl

-- and where a form begins
pub form_begun : (text bytes rest : List ℕ) (i : ℕ) (b : Bool) → bytes ≡ text → i < length bytes → rest ≡ drop i text → b ≡ begins_form rest → b ≡ true
    → holds_python (drop i text) ≡ holds_python (drop (i + 1) text)
form_begun text bytes rest i b is lt r e f =
    further text bytes i is lt (no_python (begins_with (codes "${@") (drop i text)) (begins_form (drop i text)) (ap begins_form (sym r) ∙ sym e ∙ f))
