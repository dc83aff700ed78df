-- Which names parts have.
use Rattle.std.specs.Prelude.{◌≡◌, ◌⊎◌, ℕ, true, List, []}
use Rattle.multi_config.specs.Words.{is_config_name}

-- the name of the default configuration, or one that a configuration may have
abbrev pub IsNamed : List ℕ → Type 0
IsNamed name = (name ≡ []) ⊎ (is_config_name name ≡ true)
