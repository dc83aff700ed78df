-- A list of pairs as a map: the first pair of a name counts.
use Rattle.std.specs.Prelude.{ℕ, List, [], ◌∷◌, Option, Some, None, Ok, bytes_eq, if◌then◌else◌}
use Rattle.meta_model.specs.declared.value.Resolved.{Resolved}
use Rattle.meta_model.specs.Expansion.{Find, found_by}

abbrev pub found : List (List ℕ × (List ℕ × List (List ℕ))) → List ℕ → Option Resolved
found [] name = None
found (pair ∷ pairs) name = if bytes_eq pair.0 name then Some (record { text = pair.1.0; removes = pair.1.1; flags = [] }) else found pairs name

-- Such a map refuses no name.
abbrev pub finds : List (List ℕ × (List ℕ × List (List ℕ))) → Find
finds pairs = found_by (λ name. Ok (found pairs name))
