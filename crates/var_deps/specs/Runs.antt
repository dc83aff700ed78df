-- Runs of letters, digits and `_`.
use Rattle.std.specs.Prelude.{◌≡◌, ℕ, Bool, true, not, ◌||◌, ◌==◌, List}
use Rattle.std.specs.List.{list_all}
use Rattle.std.specs.Char.{is_ascii_alphanumeric}

-- a byte that is in no run
abbrev pub separates : ℕ → Bool
separates c = not (is_ascii_alphanumeric c || c == 95)

-- all bytes are letters, digits or `_`
abbrev pub IsRun : List ℕ → Type 0
IsRun run = list_all (λ c. not (separates c)) run ≡ true
