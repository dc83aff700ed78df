-- The names before the colons of a name, as they are found from the front.
use Rattle.std.specs.Prelude.{ℕ, Bool, ◌||◌, List, [], ◌∷◌, ◌++◌, if◌then◌else◌}
use Rattle.meta_model.specs.Text.{colon, is_empty, begins_with}

-- what stands behind a front: nothing, or a colon first
abbrev pub is_behind : List ℕ → Bool
is_behind rest = is_empty rest || begins_with (colon ∷ []) rest

-- the fronts of a name that are longer than this part of it, which the rest follows
abbrev pub longer_fronts : List ℕ → List ℕ → List (List ℕ)
longer_fronts part [] = []
longer_fronts part (c ∷ rest) = (if is_behind rest then (part ++ c ∷ []) ∷ [] else []) ++ longer_fronts (part ++ c ∷ []) rest
