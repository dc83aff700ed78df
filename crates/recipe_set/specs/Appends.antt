-- Appends by their names.
use Rattle.std.specs.Prelude.{◌≡◌, ℕ, List, filter}
use Rattle.recipe_set.specs.declared.by_name.Appends.{Appends}
use Rattle.recipe_set.specs.Stems.{is_open, is_named, named_at}

-- each append stands where it is looked for
pub record IsIndex (appends : List (List ℕ)) (index : Appends) : Type 0 where
  pub named : (t : List ℕ) → named_at index.named t ≡ filter (is_named t) appends
  pub apart : index.apart ≡ filter is_open appends
