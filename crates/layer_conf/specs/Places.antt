-- The places of layers, whose folders are named once.
use Rattle.std.specs.Prelude.{ℕ, suc, List, [], ◌∷◌, length, Option, None}
use Rattle.std.specs.Option.{option_map_or}
use Rattle.load_model.specs.Layers.{held_by, longer}

abbrev pub length_in : List ℕ → Option (List ℕ) → Option ℕ
length_in path folder = option_map_or (held_by path) folder None

-- the nearest of these folders, which are numbered from k on
abbrev pub nearest_in : ℕ → List (Option (List ℕ)) → List ℕ → Option (ℕ × ℕ)
nearest_in k [] path = None
nearest_in k (folder ∷ folders) path = longer k (length_in path folder) (nearest_in (suc k) folders path)

abbrev pub place_in : List (Option (List ℕ)) → List ℕ → ℕ
place_in folders path = option_map_or (λ found. found.0) (nearest_in 0 folders path) (length folders)
