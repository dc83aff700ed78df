-- Texts that are put together piece by piece.
use Rattle.std.proofs.Common.{◌≡◌, sym, ◌∙◌, ap, ℕ, ◌+◌, ◌<◌, List, [], ◌∷◌, ◌++◌, length, take, get_or}
use Rattle.std.specs.Prelude.{flat_map}
use Rattle.std.proofs.lemmas.List.{take_more, flat_map_more}

-- one more item
pub flat_next : {X : Type 0} (f : X → List ℕ) (xs : List X) (i : ℕ) (x : X) (old made new : List ℕ) → i < length xs → x ≡ get_or xs i x → made ≡ old ++ flat_map f (take i xs) → new ≡ made ++ f x → new ≡ old ++ flat_map f (take (i + 1) xs)
flat_next f xs i x old made new lt is m n =
    n ∙ ap (λ l. l ++ f x) m ∙ flat_map_more f old (take i xs) x
    ∙ ap (λ l. old ++ flat_map f l) (ap (λ y. take i xs ++ y ∷ []) is ∙ sym (take_more xs i x lt))
