-- Where a walk along names stands: the names that are done, and those that are still to be done.
use Rattle.std.specs.Prelude.{◌≡◌, ℕ, suc, ◌+◌, Bool, true, ◌||◌, List, [], ◌∷◌, ◌++◌, length, if◌then◌else◌}
use Rattle.meta_model.specs.Text.{is_in, into_order, in_byte_order}

-- a name is done or to be done
abbrev pub is_met : List (List ℕ) → List (List ℕ) → List ℕ → Bool
is_met done todo name = is_in name done || is_in name todo

-- The names that are done ascend; the starting names, and what done names lead to, are met; and what is met is in each list
-- that holds the starting names and is closed.
pub record IsWalk (led : List ℕ → List (List ℕ)) (start done todo : List (List ℕ)) : Type 0 where
  pub ordered : in_byte_order done ≡ done
  pub holds : (name : List ℕ) → is_in name start ≡ true → is_met done todo name ≡ true
  pub closed : (from name : List ℕ) → is_in from done ≡ true → is_in name (led from) ≡ true → is_met done todo name ≡ true
  pub least : (other : List (List ℕ)) → ((name : List ℕ) → is_in name start ≡ true → is_in name other ≡ true) → ((from name : List ℕ) → is_in from other ≡ true → is_in name (led from) ≡ true → is_in name other ≡ true) → (name : List ℕ) → is_met done todo name ≡ true → is_in name other ≡ true

-- names that were done, and those that are done besides
abbrev pub with_more : List (List ℕ) → List (List ℕ) → List (List ℕ)
with_more done more = in_byte_order (done ++ more)

-- how much those of these names that aren't done may still add
abbrev pub weight : (List ℕ → List (List ℕ)) → List (List ℕ) → List (List ℕ) → ℕ
weight led [] done = 0
weight led (name ∷ names) done = (if is_in name done then 0 else suc (length (led name))) + weight led names done

-- A step of a walk: a name that is done already is passed over; another one is done, and what it leads to is to be done.
abbrev pub done_after : List ℕ → List (List ℕ) → List (List ℕ)
done_after name done = if is_in name done then done else into_order done name

abbrev pub todo_after : (List ℕ → List (List ℕ)) → List ℕ → List (List ℕ) → List (List ℕ) → List (List ℕ)
todo_after led name done todo = if is_in name done then todo else todo ++ led name

-- A walk has gone on: the names that are done ascend, and from where it stood before, whatever its starting names, it has come to
-- stand here.
pub record HasGoneOn (led : List ℕ → List (List ℕ)) (done_before todo_before done todo : List (List ℕ)) : Type 0 where
  pub ordered : in_byte_order done ≡ done
  pub walks : (start : List (List ℕ)) → IsWalk led start done_before todo_before → IsWalk led start done todo
