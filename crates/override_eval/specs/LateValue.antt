-- A value with late operations.
use Rattle.std.specs.Prelude.{ℕ, List, [], Option}
use Rattle.std.specs.Option.{option_map}
use Rattle.meta_model.specs.declared.entry.Late.TheVariants.{Remove}
use Rattle.meta_model.specs.declared.entry.LateLine.{LateLine}
use Rattle.meta_model.specs.declared.value.Resolved.{Resolved}
use Rattle.meta_model.specs.Overrides.{texts_of, with_lates}

-- a text, with the removes that count beside it ("Removal (Override Style Syntax)") and no flags
abbrev pub with_removes : List (List ℕ) → List LateLine → List ℕ → Resolved
with_removes active lines text = record { text = text; removes = texts_of Remove active lines; flags = [] }

-- The base with the appends and prepends that count, and beside it the removes that count. It is absent where there is
-- neither a base nor an append or prepend that counts.
abbrev pub late_value : List (List ℕ) → Option (List ℕ) → List LateLine → Option Resolved
late_value active base lines = option_map (with_removes active lines) (with_lates active lines base)
