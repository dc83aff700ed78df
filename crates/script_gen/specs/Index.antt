-- The names of the lines of a key, by which a line is found.
use Rattle.std.specs.Prelude.{◌≡◌, ℕ, List, Option, map}
use Rattle.std.specs.Option.{ForSome}
use Rattle.meta_model.specs.declared.value.KeyLine.{KeyLine}
use Rattle.meta_model.specs.Text.{in_byte_order}

-- where there are names, they are those of the lines, and they ascend
abbrev pub IsIndex : List KeyLine → Option (List (List ℕ)) → Type 0
IsIndex lines names = ForSome names (λ n. (n ≡ map (λ line. line.name) lines) × (in_byte_order n ≡ n))
