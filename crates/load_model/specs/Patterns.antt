-- The patterns of BBFILES.
use Rattle.std.specs.Prelude.{ℕ, Bool, true, false, ◌&&◌, nat_le, nat_lt, List, [], ◌∷◌, ◌==◌, if◌then◌else◌}
use Rattle.std.specs.List.{list_any}
use Rattle.std.specs.Option.{option_map_or}
use Rattle.meta_model.specs.Text.{is_empty}
use Rattle.load_model.specs.Paths.{is_slash, path_named}

-- what is left of a path behind each run of characters without `/` at its front
abbrev pub behind_runs : List ℕ → List (List ℕ)
behind_runs [] = [] ∷ []
behind_runs (c ∷ path) = elim (is_slash c) [ true ↦ (c ∷ path) ∷ [] | false ↦ (c ∷ path) ∷ behind_runs path ]

-- a byte of a character behind its first one
abbrev pub goes_on : ℕ → Bool
goes_on c = nat_le 128 c && nat_lt c 192

abbrev pub behind_character : List ℕ → List ℕ
behind_character [] = []
behind_character (c ∷ path) = elim (goes_on c) [ true ↦ behind_character path | false ↦ c ∷ path ]

-- what is left behind one character that isn't `/`
abbrev pub behind_one : List ℕ → List (List ℕ)
behind_one [] = []
behind_one (c ∷ path) = if is_slash c then [] else behind_character path ∷ []

-- what is left behind this byte
abbrev pub behind_byte : ℕ → List ℕ → List (List ℕ)
behind_byte p [] = []
behind_byte p (c ∷ path) = if p == c then path ∷ [] else []

-- What is left of a path behind what a byte of a pattern stands for: `*` stands for any run without `/`, `?` for one character
-- that isn't `/`, and any other byte for itself (BitBake User Manual, "Variables Glossary", BBFILES; that neither stands for
-- `/`, and that there are no other wildcards, are own rules).
abbrev pub behind : ℕ → List ℕ → List (List ℕ)
behind p path =
    if p == 42 then behind_runs path
    else (if p == 63 then behind_one path
    else behind_byte p path)

-- The path matches the pattern.
abbrev pub matches : List ℕ → List ℕ → Bool
matches [] path = is_empty path
matches (p ∷ pattern) path = list_any (matches pattern) (behind p path)

-- A word of BBFILES names a path: it loses `.` and `..`, and then matches the path.
abbrev pub names_path : List ℕ → List ℕ → Bool
names_path word path = option_map_or (λ pattern. matches pattern path) (path_named word) false
