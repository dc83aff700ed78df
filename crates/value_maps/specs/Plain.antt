-- Names that needn't be told again where others are moved: what is told of them is what they have.
use Rattle.std.specs.Prelude.{ℕ, Bool, true, not, ◌&&◌, List, length, nat_le, codes, Option, Some, None}
use Rattle.std.specs.List.{list_all}
use Rattle.meta_model.specs.declared.entry.LateLine.{LateLine}
use Rattle.meta_model.specs.Text.{holds}
use Rattle.meta_model.specs.Expansion.{longest}
use Rattle.meta_model.specs.Frozen.{holds_reference}
use Rattle.value_maps.specs.declared.named.Named.{Named}

-- a text that expansion leaves as it is
abbrev pub is_plain_text : List ℕ → Bool
is_plain_text text = not (holds (codes "${") text) && nat_le (length text) longest

-- a late entry whose conditions expansion leaves as they are
abbrev pub is_plain_late : LateLine → Bool
is_plain_late late = list_all is_plain_text late.when

-- the name holds no reference, its value is none of EXPORT_FUNCTIONS, and its late entries stay as they are
abbrev pub is_plain_named : List ℕ → Named → Bool
is_plain_named name named = not (holds_reference name) && (not named.kept.exported && list_all is_plain_late named.lates.items)

abbrev pub is_plain : List ℕ → Option Named → Bool
is_plain name None = true
is_plain name (Some named) = is_plain_named name named
