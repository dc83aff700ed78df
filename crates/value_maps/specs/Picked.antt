-- Keys of maps, picked by their values.
use Rattle.std.specs.Prelude.{ℕ, Bool, false, List, [], ◌∷◌, Option, Some, None, String, string_bytes, if◌then◌else◌}
use Rattle.std.specs.Global.{Global}

module _ {V : Type 0} where
  -- the texts of the keys whose values pass a test, in the order of the keys
  abbrev pub picked : (V → Bool) → List (String Global × V) → List (List ℕ)
  picked test [] = []
  picked test (e ∷ es) = if test e.1 then string_bytes e.0 ∷ picked test es else picked test es

  -- a value is there, and passes the test
  abbrev pub passes : (V → Bool) → Option V → Bool
  passes test None = false
  passes test (Some value) = test value
