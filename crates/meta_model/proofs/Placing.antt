-- How a text gets its place among others in byte order.
use Rattle.std.proofs.Common.{◌≡◌, sym, ◌∙◌, ap, arith, ℕ, zero, suc, ◌+◌, ◌<◌, ◌≤◌, true, false, List, [], ◌∷◌, ◌++◌, length, take, drop, get_or, bytes_eq, refl}
use Rattle.std.proofs.lemmas.List.{drop_more, take-append-drop}
use Rattle.std.proofs.lemmas.Grind.{common_steps}
use Rattle.meta_model.specs.Text.{into_order, is_before}

from_here : (xs : List (List ℕ)) (i : ℕ) (x : List ℕ) → x ≡ get_or xs i x → i < length xs → drop i xs ≡ x ∷ drop (i + 1) xs
from_here xs i x is lt = drop_more xs i x lt ∙ ap (λ y. y ∷ drop (i + 1) xs) (sym is)

-- one item stands at a place
pub same_at : (xs : List (List ℕ)) (i : ℕ) (x y : List ℕ) → x ≡ get_or xs i x → y ≡ get_or xs i y → i < length xs → x ≡ y
same_at [] i x y a b lt = absurd (omega arith)
same_at (z ∷ zs) zero x y a b lt = a ∙ sym b
same_at (z ∷ zs) (suc i) x y a b lt = same_at zs i x y a b (omega arith)

pub order_same : (xs : List (List ℕ)) (i : ℕ) (x name : List ℕ) → x ≡ get_or xs i x → i < length xs → bytes_eq x name ≡ true → into_order xs name ≡ take i xs ++ into_order (drop i xs) name → xs ≡ into_order xs name
order_same xs i x name is lt e h =
    let here = from_here xs i x is lt in
    sym (h ∙ ap (λ l. take i xs ++ into_order l name) here ∙ ap (λ l. take i xs ++ l) (rw e refl) ∙ ap (λ l. take i xs ++ l) (sym here) ∙ take-append-drop i xs)

pub order_here : (xs : List (List ℕ)) (i : ℕ) (x name : List ℕ) → x ≡ get_or xs i x → i < length xs → bytes_eq x name ≡ false → is_before name x ≡ true
    → into_order xs name ≡ take i xs ++ into_order (drop i xs) name → take i xs ++ (name ∷ drop i xs) ≡ into_order xs name
order_here xs i x name is lt e f h =
    let here = from_here xs i x is lt in
    ap (λ l. take i xs ++ (name ∷ l)) here ∙ sym (h ∙ ap (λ l. take i xs ++ into_order l name) here ∙ ap (λ l. take i xs ++ l) (rw (e, f) refl))

pub order_last : (xs : List (List ℕ)) (i : ℕ) (name : List ℕ) → length xs ≤ i → into_order xs name ≡ take i xs ++ into_order (drop i xs) name → xs ++ name ∷ [] ≡ into_order xs name
order_last xs i name past h =
    let all : take i xs ≡ xs = grind (arith, common_steps, past) in
    let none : drop i xs ≡ [] = grind (arith, common_steps, past) in
    sym (h ∙ ap (λ l. take i xs ++ into_order l name) none ∙ ap (λ l. l ++ name ∷ []) all)
