-- Maps in which nothing is kept of some names.
use Rattle.std.specs.Prelude.{◌≡◌, ℕ, true, false, List, Option, None, is_some}
use Rattle.meta_model.specs.Text.{is_in}
use Rattle.value_maps.specs.declared.named.Named.{Named}
use Rattle.value_maps.specs.Named.{IsAlike}

-- at these names stands that nothing is kept, and at all others what stood there
pub record AreEmpty (old new : List ℕ → Option Named) (names : List (List ℕ)) : Type 0 where
  pub there : (name : List ℕ) → is_in name names ≡ true → is_some (new name) ≡ true
  pub none : (name : List ℕ) → is_in name names ≡ true → IsAlike None (new name)
  pub others : (name : List ℕ) → is_in name names ≡ false → new name ≡ old name
