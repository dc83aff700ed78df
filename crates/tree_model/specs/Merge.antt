-- Taking the entries of two sorted lists from their ends.
use Rattle.std.specs.Prelude.{◌≡◌, ◌<◌, ◌-◌, ◌⊎◌, ℕ, List, [], ◌∷◌, ◌++◌, length, slice_index_or, All}
use Rattle.tree_model.specs.declared.entry.Entry.{Entry}
use Rattle.tree_model.specs.Path.{IsUpTo}

-- No entry of the second list comes behind the last one of the first, which has one.
pub record EndsLast (xs ys : List (List ℕ × Entry)) : Type 0 where
  pub some : 0 < length xs
  pub last : (d : List ℕ × Entry) → All (λ e. IsUpTo e.0 (slice_index_or xs (length xs - 1) d).0) ys

-- The entry was the last of the first list, none of the second comes behind it, and the rest stays.
pub record IsTaken (xs ys : List (List ℕ × Entry)) (e : List ℕ × Entry) (xs_left ys_left : List (List ℕ × Entry)) : Type 0 where
  pub taken : xs ≡ xs_left ++ e ∷ []
  pub other : ys_left ≡ ys
  pub greatest : All (λ y. IsUpTo y.0 e.0) ys

-- The entry was the last of one of the lists, and none of the other comes behind it.
abbrev pub IsGreatest : List (List ℕ × Entry) → List (List ℕ × Entry) → List ℕ × Entry → List (List ℕ × Entry) → List (List ℕ × Entry) → Type 0
IsGreatest xs ys e xs_left ys_left = IsTaken xs ys e xs_left ys_left ⊎ IsTaken ys xs e ys_left xs_left
