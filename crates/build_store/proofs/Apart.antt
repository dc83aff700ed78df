-- Folders that are apart.
use Rattle.std.proofs.Common.{◌≡◌, ◌≢◌, ◌∙◌, sym, ap, subst, refl, ℕ, ◌⊎◌, inl, inr, List, [], ◌∷◌, ◌++◌, append_assoc, arith}
use Rattle.tree_model.specs.Path.{IsAtOrBelow, IsBelow, inside}
use Rattle.outside_traits.specs.Store.{IsApart, slashes}
use Rattle.outside_traits.proofs.Folders.{under_same}
use Rattle.store_opening.proofs.Slashes.{slashes_inside}

-- of two folders in which one path lies, one is the other or lies in it
meet : (a b s r : List ℕ) → inside a s ≡ inside b r → (a ≡ b) ⊎ (IsBelow a b ⊎ IsBelow b a)
meet [] [] s r e = inl refl
meet [] (y ∷ b) s r e = let head : y ≡ 47 = cc in inr (inl (b, ap (λ (x : ℕ). x ∷ b) head))
meet (x ∷ a) [] s r e = let head : x ≡ 47 = cc in inr (inr (a, ap (λ (y : ℕ). y ∷ a) head))
meet (x ∷ a) (y ∷ b) s r e = by (meet a b s r cc)
  where
    head : x ≡ y
    head = cc

    by : (a ≡ b) ⊎ (IsBelow a b ⊎ IsBelow b a) → (x ∷ a ≡ y ∷ b) ⊎ (IsBelow (x ∷ a) (y ∷ b) ⊎ IsBelow (y ∷ b) (x ∷ a))
    by (inl same) = inl (λ i. head i ∷ same i)
    by (inr (inl down)) = inr (inl (down.0, (λ i. sym head i ∷ down.1 i)))
    by (inr (inr up)) = inr (inr (up.0, (λ i. head i ∷ up.1 i)))

pub below_again : (a b c : List ℕ) → IsBelow a b → IsBelow b c → IsBelow a c
below_again a b c down more = (down.0 ++ 47 ∷ more.0, more.1 ∙ ap (λ (l : List ℕ). l ++ 47 ∷ more.0) down.1 ∙ append_assoc a (47 ∷ down.0) (47 ∷ more.0))

-- what lies in a folder is apart where the folder is
pub apart_within : (folder other q : List ℕ) → IsApart folder other → IsAtOrBelow other q → IsApart folder q
apart_within folder other q apart (inl at) = subst (IsApart folder) (sym at) apart
apart_within folder other q apart (inr down) = record {
  not_folder = λ same. apart.not_above (subst (IsBelow other) same down);
  not_above = λ up. apart.not_above (below_again other q folder down up);
  not_under = λ under. by (meet folder other under.0 down.0 (sym under.1 ∙ down.1));
}
  where
    by : (folder ≡ other) ⊎ (IsBelow folder other ⊎ IsBelow other folder) → ⊥
    by (inl same) = apart.not_folder (sym same)
    by (inr (inl under)) = apart.not_under under
    by (inr (inr above)) = apart.not_above above

below_under : (top a b : List ℕ) → IsBelow (inside top a) (inside top b) → IsBelow a b
below_under top a b down = (down.0, under_same top b (inside a down.0) (down.1 ∙ append_assoc top (47 ∷ a) (47 ∷ down.0)))

-- folders that are apart are so under one folder
pub apart_under : (top a b : List ℕ) → IsApart a b → IsApart (inside top a) (inside top b)
apart_under top a b apart = record {
  not_folder = λ same. apart.not_folder (under_same top b a same);
  not_above = λ up. apart.not_above (below_under top b a up);
  not_under = λ under. apart.not_under (below_under top a b under);
}

pub not_deeper : (a b : List ℕ) → slashes a ≡ slashes b → IsBelow a b → ⊥
not_deeper a b e down = let f = ap slashes down.1 ∙ slashes_inside a down.0 in omega (arith, e, f)

-- two paths with as many slashes are apart
pub apart_by_count : (a b : List ℕ) → slashes a ≡ slashes b → b ≢ a → IsApart a b
apart_by_count a b e ne = record {
  not_folder = ne;
  not_above = not_deeper b a (sym e);
  not_under = not_deeper a b e;
}

-- a path of two parts has one first part and one second
pub same_parts : (a b s r : List ℕ) → slashes a ≡ 0 → slashes b ≡ 0 → inside a s ≡ inside b r → (a ≡ b) × (s ≡ r)
same_parts a b s r na nb e = by (meet a b s r e)
  where
    by : (a ≡ b) ⊎ (IsBelow a b ⊎ IsBelow b a) → (a ≡ b) × (s ≡ r)
    by (inl same) = (same, under_same b s r (ap (λ (l : List ℕ). inside l s) (sym same) ∙ e))
    by (inr (inl down)) = absurd (not_deeper a b (na ∙ sym nb) down)
    by (inr (inr up)) = absurd (not_deeper b a (nb ∙ sym na) up)
