-- Which rests of a path match a pattern.
use Rattle.std.specs.Prelude.{ℕ, Bool, List, [], ◌∷◌, ◌++◌, ◌==◌, ◌&&◌, ◌||◌, not, if◌then◌else◌}
use Rattle.load_model.specs.Paths.{is_slash}
use Rattle.load_model.specs.Patterns.{matches}

-- for each rest of the path, from the shortest on, whether it matches
abbrev pub rows : List ℕ → List ℕ → List Bool
rows pattern [] = matches pattern [] ∷ []
rows pattern (c ∷ path) = rows pattern path ++ matches pattern (c ∷ path) ∷ []

-- Whether a byte of a pattern and the rest of it match the byte `next` and what stands behind it: by whether the rest of the
-- pattern matches all of that, what stands behind `next`, and what stands behind the character that `next` begins; and whether
-- the whole pattern matches what stands behind `next`.
abbrev pub cell_of : ℕ → ℕ → Bool → Bool → Bool → Bool → Bool
cell_of byte next whole behind later again =
    if byte == 42 then whole || (not (is_slash next) && again)
    else (if byte == 63 then not (is_slash next) && later
    else byte == next && behind)
