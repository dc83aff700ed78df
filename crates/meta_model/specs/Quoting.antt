-- Values between double quotes. (Own rules.)
use Rattle.std.specs.Prelude.{ℕ, ◌==◌, ◌||◌, Bool, List, [], ◌∷◌, codes, flat_map, if◌then◌else◌}
use Rattle.meta_model.specs.declared.quoting.Quoting.{Quoting}
use Rattle.meta_model.specs.declared.quoting.Quoting.TheVariants.{Shell, Print}
use Rattle.meta_model.specs.Text.{backslash, double_quote, newline}

-- a byte that doesn't stand as it is: for the shell a backslash, a double quote and a backquote; for people the first two and a newline
abbrev pub is_special : Quoting → ℕ → Bool
is_special Shell c = c == backslash || (c == double_quote || c == 96)
is_special Print c = c == backslash || (c == double_quote || c == newline)

-- What a byte is written as. In double quotes the shell takes a special byte with a backslash in front for itself; people read `\n` for a
-- newline.
abbrev pub escape : Quoting → ℕ → List ℕ
escape Shell c = if c == backslash || (c == double_quote || c == 96) then backslash ∷ (c ∷ []) else c ∷ []
escape Print c = if c == backslash then codes "\\\\" else (if c == double_quote then codes "\\\"" else (if c == newline then codes "\\n" else c ∷ []))

-- a value as it is written
abbrev pub escaped : Quoting → List ℕ → List ℕ
escaped quoting value = flat_map (escape quoting) value
