use Rattle.std.proofs.Common.{◌≡◌, ◌∙◌, ℕ, ◌+◌, ◌<◌, ◌≤◌, ◌-◌, List, [], ◌∷◌, ◌++◌, length, get_or, take, drop, map, sym, ap, arith, length-drop}
use Rattle.std.proofs.lemmas.List.{map_more, take_all}

-- a loop that pushes f x for each element x: one turn of it
pub map_step : {X Y : Type 0} (f : X → Y) (xs : List X) (i : ℕ) (x : X) (made : List Y) (y : Y) (after : List Y) → i < length xs → x ≡ get_or xs i x → made ≡ map f (take i xs) → y ≡ f x → after ≡ made ++ y ∷ [] → after ≡ map f (take (i + 1) xs)
map_step f xs i x made y after lt is sofar one pushed =
    pushed ∙ ap (λ m. m ++ y ∷ []) sofar ∙ ap (λ z. map f (take i xs) ++ z ∷ []) (one ∙ ap f is) ∙ sym (map_more f xs i x lt)

-- and its end
pub map_end : {X Y : Type 0} (f : X → Y) (xs : List X) (i : ℕ) (made : List Y) → length xs ≤ i → made ≡ map f (take i xs) → made ≡ map f xs
map_end f xs i made le sofar = sofar ∙ ap (map f) (take_all i xs le)

-- a loop that pushes each element from a place on, at its end
pub taken_from : {A : Type 0} (xs : List A) (place i : ℕ) (made : List A) → length (take (length xs - place) (drop place xs)) ≤ i → made ≡ take i (take (length xs - place) (drop place xs)) → made ≡ drop place xs
taken_from xs place i made le sofar = sofar ∙ take_all i (take (length xs - place) (drop place xs)) le ∙ take_all (length xs - place) (drop place xs) (omega (arith, length-drop place xs))
