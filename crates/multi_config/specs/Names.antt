-- The names of configurations, gathered one after another.
use Rattle.std.specs.Prelude.{ℕ, List, [], ◌∷◌, ◌++◌, if◌then◌else◌}
use Rattle.meta_model.specs.Text.{is_empty, is_in}
use Rattle.multi_config.specs.declared.places.Placed.{Placed}

abbrev pub config_of : Placed → List ℕ
config_of place = place.config

-- the names with this one behind them, where it isn't there yet
abbrev pub with_name : List (List ℕ) → List ℕ → List (List ℕ)
with_name names name = if is_in name names then names else names ++ name ∷ []

-- the same, but for the empty name
abbrev pub with_named : List (List ℕ) → List ℕ → List (List ℕ)
with_named names name = if is_empty name then names else with_name names name
