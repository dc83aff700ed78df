-- The configurations that words name: `mc:NAME:RECIPE` and `mc:NAME:RECIPE:TASK` (BitBake User Manual, "The BitBake Command", section "Executing a
-- Multiple Configuration Build"; the names, the refusals and their order are own rules).
use Rattle.std.specs.Prelude.{ℕ, Bool, not, ◌&&◌, ◌||◌, List, [], ◌∷◌, map, filter, drop, length, nat_le, bytes_eq, Option, Some, None, Result, Ok, Err, codes, if◌then◌else◌}
use Rattle.std.specs.List.{list_any}
use Rattle.meta_model.specs.Text.{colon, is_empty, is_in, is_made_of, split_at_first}
use Rattle.answer_model.specs.Targets.{is_elsewhere, target_name, target_of}
use Rattle.multi_config.specs.declared.parts.ConfigTargets.{ConfigTargets}
use Rattle.multi_config.specs.declared.places.Placed.{Placed}

-- What stands behind `mc:` is a name, a colon and a target whose recipe isn't empty. The name may be empty: it is that of the default configuration.
abbrev pub placed_cut : Option (List ℕ × List ℕ) → Option Placed
placed_cut None = None
placed_cut (Some cut) = if is_empty (target_name cut.1) then None else Some (record { config = cut.0; word = cut.1 })

-- A word without `mc:` is a target of the default configuration; one with it, but of another form, is none.
abbrev pub placed : List ℕ → Option Placed
placed word = if is_elsewhere word then placed_cut (split_at_first colon (drop 3 word)) else Some (record { config = []; word = word })

-- A configuration's name has letters, digits, `-` and `_`, at least one and at most 255.
abbrev pub is_config_name : List ℕ → Bool
is_config_name name = is_made_of (codes "-_") name && nat_le (length name) 255

-- the default configuration, or one that the default one's BBMULTICONFIG names
abbrev pub is_config : List (List ℕ) → List ℕ → Bool
is_config configs name = is_empty name || is_config_name name && is_in name configs

-- why a word is refused: there is no configuration of that name, or it begins with `mc:` and has another form
pub data WordRefusal : Type 0 where
  no_such_config : (name : List ℕ) → WordRefusal
  nothing_provides : (word : List ℕ) → WordRefusal

abbrev pub place_in : List (List ℕ) → List ℕ → Option Placed → Result Placed WordRefusal
place_in configs word None = Err (nothing_provides word)
place_in configs word (Some target) = if is_config configs target.config then Ok target else Err (no_such_config target.config)

-- the word as a target, where a configuration of that name is there
abbrev pub place_of : List (List ℕ) → List ℕ → Result Placed WordRefusal
place_of configs word = place_in configs word (placed word)

-- all words as targets, or why the first that is none is refused
abbrev pub with_first : Result Placed WordRefusal → Result (List Placed) WordRefusal → Result (List Placed) WordRefusal
with_first (Err fault) rest = Err fault
with_first (Ok target) (Err fault) = Err fault
with_first (Ok target) (Ok targets) = Ok (target ∷ targets)

abbrev pub places_of : List (List ℕ) → List (List ℕ) → Result (List Placed) WordRefusal
places_of configs [] = Ok []
places_of configs (word ∷ words) = with_first (place_of configs word) (places_of configs words)

-- ---- the parts of a run

-- the names, each where it stands first
abbrev pub firsts : List (List ℕ) → List (List ℕ)
firsts [] = []
firsts (name ∷ names) = name ∷ filter (λ other. not (bytes_eq name other)) (firsts names)

-- The configurations that have a target: the default one first, then the others in the order of their first targets. Where there is no target at all
-- the default one stands alone.
abbrev pub reached : List Placed → List (List ℕ)
reached [] = [] ∷ []
reached (target ∷ targets) =
    let names = firsts (map (λ t. t.config) (target ∷ targets)) in
    if list_any is_empty names then [] ∷ filter (λ name. not (is_empty name)) names else names

-- a configuration with all its targets, in their order
abbrev pub part_of : List ℕ → List Placed → List ℕ → ConfigTargets
part_of default targets name = record { mc = name; targets = map (λ t. target_of default t.word) (filter (λ t. bytes_eq name t.config) targets) }

abbrev pub parts_in : List ℕ → Result (List Placed) WordRefusal → Result (List ConfigTargets) WordRefusal
parts_in default (Err fault) = Err fault
parts_in default (Ok targets) = Ok (map (part_of default targets) (reached targets))

-- The parts of a run of these words, each configuration once, where the targets that name no task have this one; or why the first word at fault is refused.
unfoldable pub parts_of : List (List ℕ) → List ℕ → List (List ℕ) → Result (List ConfigTargets) WordRefusal
parts_of configs default words = parts_in default (places_of configs words)
