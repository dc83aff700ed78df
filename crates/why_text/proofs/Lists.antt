-- Lists that are gathered item by item.
use Rattle.std.proofs.Common.{◌≡◌, ◌∙◌, sym, ap, ℕ, ◌+◌, ◌<◌, Bool, true, false, cond, List, [], ◌∷◌, ◌++◌, length, get_or, take, map, filter, append_assoc}
use Rattle.std.proofs.lemmas.List.{append-nil, map-append}
use Rattle.std.proofs.lemmas.List.Elements.{filter_more}

-- an item more that passes the test
pub gathered_on : {X Y : Type 0} (p : X → Bool) (f : X → Y) (xs : List X) (i : ℕ) (d : X) (old made : List Y) → i < length xs → p (get_or xs i d) ≡ true → made ≡ old ++ map f (filter p (take i xs)) → made ++ f (get_or xs i d) ∷ [] ≡ old ++ map f (filter p (take (i + 1) xs))
gathered_on p f xs i d old made lt passes so_far =
    ap (λ m. m ++ f (get_or xs i d) ∷ []) so_far
    ∙ append_assoc old (map f (filter p (take i xs))) (f (get_or xs i d) ∷ [])
    ∙ ap (λ l. old ++ l) (sym (map-append f (filter p (take i xs)) (get_or xs i d ∷ [])))
    ∙ ap (λ l. old ++ map f (filter p (take i xs) ++ l)) (ap (λ b. cond b (get_or xs i d ∷ []) []) (sym passes))
    ∙ ap (λ l. old ++ map f l) (sym (filter_more p xs i d lt))

-- and one that doesn't
pub gathered_past : {X Y : Type 0} (p : X → Bool) (f : X → Y) (xs : List X) (i : ℕ) (d : X) (old made : List Y) → i < length xs → p (get_or xs i d) ≡ false → made ≡ old ++ map f (filter p (take i xs)) → made ≡ old ++ map f (filter p (take (i + 1) xs))
gathered_past p f xs i d old made lt fails so_far =
    so_far
    ∙ ap (λ l. old ++ map f l) (sym (append-nil (filter p (take i xs))))
    ∙ ap (λ l. old ++ map f (filter p (take i xs) ++ l)) (ap (λ b. cond b (get_or xs i d ∷ []) []) (sym fails))
    ∙ ap (λ l. old ++ map f l) (sym (filter_more p xs i d lt))
