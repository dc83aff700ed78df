-- Lists of which each item has a partner.
use Rattle.std.proofs.Common.{◌≡◌, refl, sym, ◌∙◌, ap, arith, ℕ, suc, ◌+◌, ◌<◌, List, [], ◌∷◌, ◌++◌, length, get_or, take, zero, ◌≤◌, Ok, Err, codes}
use Rattle.std.specs.Prelude.{zip}
use Rattle.std.proofs.lemmas.List.{take_more, take_all, length-take}
use Rattle.task_model.specs.TaskRefusal.{bad_flag}
use Rattle.task_model.specs.Scripts.{paired}

pub all_paired : (inputs outputs : List (List ℕ)) → length inputs ≡ length outputs → paired inputs outputs ≡ Ok tt
all_paired [] [] e = refl
all_paired [] (output ∷ outputs) e = absurd (omega (arith, e))
all_paired (input ∷ inputs) [] e = absurd (omega (arith, e))
all_paired (input ∷ inputs) (output ∷ outputs) e = all_paired inputs outputs (omega (arith, e))

pub input_alone : (inputs outputs : List (List ℕ)) (d : List ℕ) → length outputs < length inputs → paired inputs outputs ≡ Err (bad_flag (codes "sstate-inputdirs") (get_or inputs (length outputs) d))
input_alone [] outputs d lt = absurd (omega (arith, lt))
input_alone (input ∷ inputs) [] d lt = refl
input_alone (input ∷ inputs) (output ∷ outputs) d lt = input_alone inputs outputs d (omega (arith, lt))

pub output_alone : (inputs outputs : List (List ℕ)) (d : List ℕ) → length inputs < length outputs → paired inputs outputs ≡ Err (bad_flag (codes "sstate-outputdirs") (get_or outputs (length inputs) d))
output_alone inputs [] d lt = absurd (omega (arith, lt))
output_alone [] (output ∷ outputs) d lt = refl
output_alone (input ∷ inputs) (output ∷ outputs) d lt = output_alone inputs outputs d (omega (arith, lt))

-- the next pair

zip_front : {A B : Type 0} (xs : List A) (ys : List B) (x : A) (y : B) → length xs ≡ length ys → zip (xs ++ x ∷ []) (ys ++ y ∷ []) ≡ zip xs ys ++ (x, y) ∷ []
zip_front [] [] x y e = refl
zip_front [] (b ∷ ys) x y e = absurd (omega (arith, e))
zip_front (a ∷ xs) [] x y e = absurd (omega (arith, e))
zip_front (a ∷ xs) (b ∷ ys) x y e = ap (λ l. (a, b) ∷ l) (zip_front xs ys x y (omega (arith, e)))

pub zip_next : {A B : Type 0} (xs : List A) (ys : List B) (i : ℕ) (x : A) (y : B) (old new : List (A × B)) → i < length xs → i < length ys → x ≡ get_or xs i x → y ≡ get_or ys i y → old ≡ zip (take i xs) (take i ys) → new ≡ old ++ (x, y) ∷ [] → new ≡ zip (take (i + 1) xs) (take (i + 1) ys)
zip_next xs ys i x y old new lx ly ex ey o n =
    let same : length (take i xs) ≡ length (take i ys) = omega (arith, length-take i xs, length-take i ys) in
    n ∙ ap (λ l. l ++ (x, y) ∷ []) o ∙ sym (zip_front (take i xs) (take i ys) x y same)
    ∙ ap (λ l. zip l (take i ys ++ y ∷ [])) (ap (λ z. take i xs ++ z ∷ []) ex ∙ sym (take_more xs i x lx))
    ∙ ap (zip (take (i + 1) xs)) (ap (λ z. take i ys ++ z ∷ []) ey ∙ sym (take_more ys i y ly))

-- all pairs

zip_none : {A B : Type 0} (xs : List A) (ys : List B) → length ys ≡ 0 → zip xs ys ≡ []
zip_none [] ys h = refl
zip_none (x ∷ xs) [] h = refl
zip_none (x ∷ xs) (y ∷ ys) h = absurd (omega (arith, h))

zip_past : {A B : Type 0} (xs : List A) (ys : List B) (i : ℕ) → length ys ≡ 0 → zip (take i xs) (take i ys) ≡ zip xs ys
zip_past xs ys i h = zip_none (take i xs) (take i ys) (omega (arith, length-take i ys, h)) ∙ sym (zip_none xs ys h)

pub zip_long : {A B : Type 0} (xs : List A) (ys : List B) (i : ℕ) → length xs ≤ i → zip (take i xs) (take i ys) ≡ zip xs ys
zip_long [] ys i h = ap (λ l. zip l (take i ys)) (take_all i [] h)
zip_long (x ∷ xs) ys zero h = absurd (omega (arith, h))
zip_long (x ∷ xs) [] (suc i) h = zip_past (x ∷ xs) [] (suc i) refl
zip_long (x ∷ xs) (y ∷ ys) (suc i) h = ap (λ l. (x, y) ∷ l) (zip_long xs ys i (omega (arith, h)))

pub zip_short : {A B : Type 0} (xs : List A) (ys : List B) (i : ℕ) → length ys ≤ i → zip (take i xs) (take i ys) ≡ zip xs ys
zip_short [] ys i h = ap (λ l. zip l (take i ys)) (take_all i [] (omega arith))
zip_short (x ∷ xs) [] i h = zip_past (x ∷ xs) [] i refl
zip_short (x ∷ xs) (y ∷ ys) zero h = absurd (omega (arith, h))
zip_short (x ∷ xs) (y ∷ ys) (suc i) h = ap (λ l. (x, y) ∷ l) (zip_short xs ys i (omega (arith, h)))
