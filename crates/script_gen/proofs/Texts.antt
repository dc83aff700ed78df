-- Texts that are put together piece by piece.
use Rattle.std.proofs.Common.{◌≡◌, sym, ◌∙◌, ap, ℕ, ◌+◌, ◌<◌, List, [], ◌∷◌, ◌++◌, length, take, get_or, append_assoc, append-nil}
use Rattle.std.specs.Prelude.{flat_map}
use Rattle.std.proofs.lemmas.List.{take_more, flat_map_more}
use Rattle.meta_model.specs.Script.{function_text, function_texts}
use Rattle.task_model.specs.Scripts.{ended, ended_bodies}

pub four : (out a b c d s t u w : List ℕ) → s ≡ out ++ a → t ≡ s ++ b → u ≡ t ++ c → w ≡ u ++ d → w ≡ out ++ (a ++ (b ++ (c ++ d)))
four out a b c d s t u w e f g h = h ∙ ap (λ l. l ++ d) (g ∙ ap (λ l. l ++ c) (f ∙ ap (λ l. l ++ b) e)) ∙ simp append_assoc

-- one item more
pub flat_next : {X : Type 0} (f : X → List ℕ) (xs : List X) (i : ℕ) (x : X) (old made new : List ℕ) → i < length xs → x ≡ get_or xs i x → made ≡ old ++ flat_map f (take i xs) → new ≡ made ++ f x → new ≡ old ++ flat_map f (take (i + 1) xs)
flat_next f xs i x old made new lt is m n =
    n ∙ ap (λ l. l ++ f x) m ∙ flat_map_more f old (take i xs) x
    ∙ ap (λ l. old ++ flat_map f l) (ap (λ y. take i xs ++ y ∷ []) is ∙ sym (take_more xs i x lt))

-- one function more

texts_more : (bodies : List (List ℕ × List ℕ)) (x : List ℕ × List ℕ) → function_texts (ended_bodies (bodies ++ x ∷ [])) ≡ function_texts (ended_bodies bodies) ++ function_text x.0 (ended x.1)
texts_more [] x = append-nil (function_text x.0 (ended x.1))
texts_more (y ∷ ys) x = ap (λ l. function_text y.0 (ended y.1) ++ l) (texts_more ys x) ∙ sym (append_assoc (function_text y.0 (ended y.1)) (function_texts (ended_bodies ys)) (function_text x.0 (ended x.1)))

pub texts_next : (xs : List (List ℕ × List ℕ)) (i : ℕ) (x : List ℕ × List ℕ) (old made new : List ℕ) → i < length xs → x ≡ get_or xs i x → made ≡ old ++ function_texts (ended_bodies (take i xs)) → new ≡ made ++ function_text x.0 (ended x.1) → new ≡ old ++ function_texts (ended_bodies (take (i + 1) xs))
texts_next xs i x old made new lt is m n =
    n ∙ ap (λ l. l ++ function_text x.0 (ended x.1)) m ∙ append_assoc old (function_texts (ended_bodies (take i xs))) (function_text x.0 (ended x.1))
    ∙ ap (λ l. old ++ l) (sym (texts_more (take i xs) x) ∙ ap (λ l. function_texts (ended_bodies l)) (ap (λ y. take i xs ++ y ∷ []) is ∙ sym (take_more xs i x lt)))
