-- Short words for worked plans.
use Rattle.std.specs.Prelude.{ℕ, List, bytes_eq}
use Rattle.std.specs.Map.{lookup}
use Rattle.plan_model.specs.Inputs.{Files}

-- files, each with its bytes
abbrev pub these : List (List ℕ × List ℕ) → Files
these list path = lookup (bytes_eq path) list
