-- What is held of a folder stays, where what changes is apart from it.
use Rattle.std.proofs.Common.{◌≡◌, ◌∙◌, sym, ap, subst, refl, ℕ, ◌⊎◌, inl, inr, List, ◌∷◌, None, arith, append_assoc}
use Rattle.std.specs.Prelude.{IsSome}
use Rattle.std.specs.Option.{is_some}
use Rattle.std.proofs.lemmas.Bool.{false≢true}
use Rattle.tree_model.specs.Path.{IsAtOrBelow, IsBelow, inside}
use Rattle.outside_traits.specs.Store.{HoldsTree, IsApart, IsOpen, Store, slashes}
use Rattle.outside_traits.proofs.Folders.{above_under}
use Rattle.outside_traits.proofs.Held.{none_unless}
use Rattle.meta_model.specs.CleanBuild.{Entries}
use Rattle.store_opening.proofs.Slashes.{slashes_inside}
use Rattle.build_store.proofs.Apart.{apart_under, apart_within, below_again}

-- what stands above a place in a top folder is that folder or in it
pub in_top : (top f q : List ℕ) → slashes top ≡ 0 → IsBelow q (inside top f) → IsAtOrBelow top q
in_top top f q none up = by (above_under top f q up)
  where
    by : IsBelow q top ⊎ ((q ≡ top) ⊎ ((r : List ℕ) × (q ≡ inside top r) × IsBelow r f)) → IsAtOrBelow top q
    by (inl over) = absurd (let e = ap slashes over.1 ∙ slashes_inside q over.0 in omega (arith, e, none))
    by (inr (inl at)) = inl at
    by (inr (inr w)) = inr (w.0, w.1)

-- where nothing in a top folder changes
module _ (top other : List ℕ) (plain : slashes top ≡ 0) (old new : Store) (same : (q : List ℕ) → IsAtOrBelow top q → new q ≡ old q) where
  pub path_in : (path : List ℕ) → new (inside (inside top other) path) ≡ old (inside (inside top other) path)
  path_in path = same (inside (inside top other) path) (inr (inside other path, append_assoc top (47 ∷ other) (47 ∷ path)))

  pub open_in : IsOpen (inside top other) old → IsOpen (inside top other) new
  open_in was = record { at = same (inside top other) (inr (other, refl)) ∙ was.at; above = λ q up. same q (in_top top other q plain up) ∙ was.above q up }

  pub tree_in : (tree : Entries) → HoldsTree (inside top other) tree old → HoldsTree (inside top other) tree new
  tree_in tree was = record { entries = λ path. path_in path ∙ was.entries path; outside = open_in was.outside }

-- where it changes in another folder, and above that no more than where this store holds something
module _ (top f other : List ℕ) (plain : slashes top ≡ 0) (apart : IsApart f other) (held old new : Store) (same : (q : List ℕ) → IsAtOrBelow top q → IsApart (inside top f) q → new q ≡ old q) (above : (q : List ℕ) → IsBelow q (inside top f) → held q ≡ None → new q ≡ old q) where
  far : IsApart (inside top f) (inside top other)
  far = apart_under top f other apart

  pub path_far : (path : List ℕ) → new (inside (inside top other) path) ≡ old (inside (inside top other) path)
  path_far path = same (inside (inside top other) path) (inr (inside other path, append_assoc top (47 ∷ other) (47 ∷ path))) (apart_within (inside top f) (inside top other) (inside (inside top other) path) far (inr (path, refl)))

  pub open_far : IsOpen (inside top other) held → IsOpen (inside top other) old → IsOpen (inside top other) new
  open_far first was = record { at = same (inside top other) (inr (other, refl)) far ∙ was.at; above = λ q up. none_unless (new q) (not_held q up) }
    where
      not_held : (q : List ℕ) → IsBelow q (inside top other) → IsSome (new q) → ⊥
      not_held q up some =
          let over : IsBelow q (inside top f) → ⊥ = λ up'. some_not (above q up' (first.above q up) ∙ was.above q up) in
          some_not (same q (in_top top other q plain up) (record {
            not_folder = λ at. far.not_under (subst (λ (p : List ℕ). IsBelow p (inside top other)) at up);
            not_above = over;
            not_under = λ under. far.not_under (below_again (inside top f) q (inside top other) under up);
          }) ∙ was.above q up)
        where
          some_not : new q ≡ None → ⊥
          some_not none = false≢true (sym (ap is_some none) ∙ some)

  pub tree_far : (tree : Entries) → IsOpen (inside top other) held → HoldsTree (inside top other) tree old → HoldsTree (inside top other) tree new
  tree_far tree first was = record { entries = λ path. path_far path ∙ was.entries path; outside = open_far first was.outside }
