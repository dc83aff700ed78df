-- The parts of an output, where none of their paths is too long.
use Rattle.std.specs.Prelude.{◌≡◌, ℕ, Bool, true, false, List, Option, Some, None, map}
use Rattle.std.specs.List.{list_any}
use Rattle.meta_model.specs.CleanBuild.{Entries, given, has_long_part, is_long, part_at}
use Rattle.meta_model.specs.Layout.{overlaid_all}

-- the part, or nothing where a path of it is too long
abbrev pub IsShortPart : Entries → Option Entries → Type 0
IsShortPart part (Some made) = (made ≡ part) × (list_any is_long part ≡ false)
IsShortPart part None = list_any is_long part ≡ true

-- the parts, each laid over those before it, or nothing where a path of one is too long
abbrev pub AreJoined : Entries → List (List ℕ × List ℕ) → Option Entries → Type 0
AreJoined tree places (Some made) = (made ≡ overlaid_all (map (part_at tree) places)) × (list_any (λ place. list_any is_long (part_at tree place)) places ≡ false)
AreJoined tree places None = list_any (λ place. list_any is_long (part_at tree place)) places ≡ true

-- the output of a work tree, or nothing where a path of one of its parts is too long
abbrev pub IsOutput : Bool → List (List ℕ × List ℕ) → Entries → Option Entries → Type 0
IsOutput sstate places tree (Some made) = (made ≡ given sstate places tree) × (has_long_part sstate places tree ≡ false)
IsOutput sstate places tree None = has_long_part sstate places tree ≡ true
