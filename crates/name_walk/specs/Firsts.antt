-- Two lists in byte order, name by name.
use Rattle.std.specs.Prelude.{◌≡◌, ℕ, List, ◌∷◌}
use Rattle.meta_model.specs.Text.{in_byte_order}
use Rattle.name_walk.specs.Walk.{with_more}

-- This name is the first of the names of both lists, and these are left, in byte order still.
pub record IsFirst (before behind : List (List ℕ)) (name : List ℕ) (ones others : List (List ℕ)) : Type 0 where
  pub names : with_more before behind ≡ name ∷ with_more ones others
  pub one : in_byte_order ones ≡ ones
  pub other : in_byte_order others ≡ others
