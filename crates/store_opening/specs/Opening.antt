-- What opening a store makes of a disk.
use Rattle.std.specs.Prelude.{◌≡◌, ℕ, List}
use Rattle.outside_traits.specs.Store.{Store}
use Rattle.store_model.specs.Opened.{IsLeft}

-- What opening makes of a store at each moment: what it leaves alone stays.
pub record Clears (held old new : Store) : Type 0 where
  pub left : (q : List ℕ) → IsLeft held q → new q ≡ old q
