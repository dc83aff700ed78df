-- What a call did to the counts of its devices.
use Rattle.std.specs.Prelude.{◌≡◌, ◌<◌, ◌-◌, ◌^◌, ℕ, List, All}

-- a count is unchanged; one that stands at its last value counts as risen
pub record IsUnchanged (before now : ℕ) : Type 0 where
  pub same : now ≡ before
  pub below : before < 2 ^ 64 - 1

-- each count of the list is unchanged
pub record AreUnchanged (before now : List ℕ) : Type 0 where
  pub same : now ≡ before
  pub below : All (λ n. n < 2 ^ 64 - 1) before
