-- Names in byte order.
use Rattle.std.specs.Prelude.{◌≡◌, ℕ, Bool, List}
use Rattle.meta_model.specs.Ascending.{Ascending}
use Rattle.meta_model.specs.Text.{is_in}

-- exactly the names that pass a test, in byte order and each once
pub record AreKeys (names : List (List ℕ)) (test : List ℕ → Bool) : Type 0 where
  pub ordered : Ascending names
  pub are : (name : List ℕ) → is_in name names ≡ test name
