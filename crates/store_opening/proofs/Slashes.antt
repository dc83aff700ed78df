-- Slashes are counted.
use Rattle.std.proofs.Common.{◌≡◌, ◌≢◌, ◌∙◌, ap, refl, ℕ, suc, ◌+◌, Bool, true, false, List, [], ◌∷◌, ◌++◌, arith, take, get_or, length, ◌<◌}
use Rattle.std.specs.Prelude.{◌==◌}
use Rattle.std.proofs.lemmas.Bool.Decides.{Decides-eqb}
use Rattle.std.proofs.lemmas.List.{take_more}
use Rattle.tree_model.specs.Path.{inside}
use Rattle.outside_traits.specs.Store.{slashes}

pub slashes-append : (xs ys : List ℕ) → slashes (xs ++ ys) ≡ slashes xs + slashes ys
slashes-append [] ys = omega arith
slashes-append (x ∷ xs) ys = by (x == 47) refl (slashes-append xs ys)
  where
    by : (b : Bool) → (x == 47) ≡ b → slashes (xs ++ ys) ≡ slashes xs + slashes ys → slashes (x ∷ xs ++ ys) ≡ slashes (x ∷ xs) + slashes ys
    by true e more = rw e (omega (arith, more))
    by false e more = rw e more

pub slashes_inside : (folder path : List ℕ) → slashes (inside folder path) ≡ slashes folder + 1 + slashes path
slashes_inside folder path = let e = slashes-append folder (47 ∷ path) in let f : slashes (47 ∷ path) ≡ suc (slashes path) = refl in omega (arith, e, f)

-- one byte more
pub slash_more : (xs : List ℕ) (i : ℕ) → i < length xs → get_or xs i 0 ≡ 47 → slashes (take (i + 1) xs) ≡ slashes (take i xs) + 1
slash_more xs i lt slash =
    ap slashes (take_more xs i 0 lt) ∙ slashes-append (take i xs) (get_or xs i 0 ∷ []) ∙ ap (λ (b : ℕ). slashes (take i xs) + slashes (b ∷ [])) slash

pub none_more : (xs : List ℕ) (i : ℕ) → i < length xs → get_or xs i 0 ≢ 47 → slashes (take (i + 1) xs) ≡ slashes (take i xs)
none_more xs i lt other =
    ap slashes (take_more xs i 0 lt) ∙ slashes-append (take i xs) (get_or xs i 0 ∷ []) ∙ by (get_or xs i 0) (get_or xs i 0 == 47) refl other
  where
    by : (byte : ℕ) (b : Bool) → (byte == 47) ≡ b → byte ≢ 47 → slashes (take i xs) + slashes (byte ∷ []) ≡ slashes (take i xs)
    by byte true e ne = absurd (ne ((Decides-eqb byte 47).0 e))
    by byte false e ne = rw e (omega arith)
