-- What stands while texts are expanded, and the values that are known by then.
use Rattle.std.specs.Prelude.{◌≡◌, ◌+◌, ◌≤◌, ◌<◌, ◌&&◌, ℕ, Bool, true, false, not, nat_le, max, List, length, Option, Some, None, Result, Ok, Err, String, codes, bytes_eq, if◌then◌else◌, ⊤}
use Rattle.std.specs.Global.{Global}
use Rattle.std.specs.Option.{option_map, option_or}
use Rattle.std.specs.BTreeMap.{BTreeMap, get_by_text}
use Rattle.std.specs.Map.{update}
use Rattle.meta_model.specs.declared.value.Resolved.{Resolved}
use Rattle.meta_model.specs.Refusal.{Refusal}
use Rattle.meta_model.specs.Text.{holds, is_empty, is_in}
use Rattle.meta_model.specs.Expansion.{Find, Values, longest}
use Rattle.var_expand.specs.declared.going.Known.{Known}
use Rattle.var_expand.specs.declared.going.Going.{Going}
use Rattle.var_expand.specs.declared.going.AtHand.{AtHand}
use Rattle.var_expand.specs.declared.going.AtHand.TheVariants.{Value, Deeper}
use Rattle.var_expand.specs.Expanding.{innermost_first, known}
use Rattle.var_expand.specs.ValueTable.{Kept, Table, IsTable}

-- a value that is kept
abbrev pub kept_of : Known → Kept
kept_of known = record { height = known.height; value = Some known.value }

abbrev pub kept_in : BTreeMap (String Global) Known → Table
kept_in values name = option_map kept_of (get_by_text values name)

-- the greater height, where one can be said
abbrev pub higher : Option ℕ → ℕ → Option ℕ
higher None height = None
higher (Some most) height = Some (max most height)

abbrev pub joined : Option ℕ → Option ℕ → Option ℕ
joined one None = None
joined one (Some height) = higher one height

-- the value of the name, if one is kept, is too high for so much room
abbrev pub IsBeyond : Table → ℕ → List ℕ → Type 0
IsBeyond table left name = (kept : Kept) → table name ≡ Some kept → left < kept.height

-- a value with neither references nor removes
abbrev pub has_no_more : Resolved → Bool
has_no_more found = not (holds (codes "${") found.text) && is_empty found.removes

abbrev pub if_fits : Resolved → Bool → Option Kept
if_fits found fits = if fits then Some (record { height = 1; value = Some found.text }) else None

-- What is known of a name without being kept: that it has no value, or its value, where that meets no other name.
abbrev pub leaf_of : Result (Option Resolved) Refusal → Option Kept
leaf_of (Ok None) = Some (record { height = 0; value = None })
leaf_of (Ok (Some found)) = if_fits found (has_no_more found && nat_le (length found.text) longest)
leaf_of (Err refusal) = None

-- all that is known
unfoldable pub table_of : Find → BTreeMap (String Global) Known → Table
table_of find values name = option_or (kept_in values name) (leaf_of (find.at name))

-- the names that are known up to a height have their values
abbrev pub Tells : Table → Option ℕ → Values → Type 0
Tells table None values = ⊥
Tells table (Some height) values = (name : List ℕ) (kept : Kept) → table name ≡ Some kept → kept.height ≤ height → values.at name ≡ Ok kept.value

-- what was met is no higher than there is room for
abbrev pub IsLow : ℕ → Option ℕ → Type 0
IsLow left None = ⊤
IsLow left (Some height) = height ≤ left

-- What is known is right, kept of names that meet others alone, and of those in expansion only where they are too high for the room.
pub record IsGoing (find : Find) (left : ℕ) (going : Going) : Type 0 where
  pub right : IsTable find (table_of find going.values)
  pub apart : (name : List ℕ) (kept : Kept) → kept_in going.values name ≡ Some kept → leaf_of (find.at name) ≡ None
  pub clear : (name : List ℕ) → is_in name (innermost_first going.within.items) ≡ true → IsBeyond (table_of find going.values) left name
  pub low : IsLow left going.height

-- What was known stays known; of the names in expansion nothing new is; and whoever tells what is known by now tells what was met before.
pub record Grew (find : Find) (left : ℕ) (old new : Going) : Type 0 where
  pub right : IsTable find (table_of find new.values)
  pub apart : (name : List ℕ) (kept : Kept) → kept_in new.values name ≡ Some kept → leaf_of (find.at name) ≡ None
  pub kept : (name : List ℕ) (kept : Kept) → table_of find old.values name ≡ Some kept → table_of find new.values name ≡ Some kept
  pub within : (name : List ℕ) → is_in name (innermost_first old.within.items) ≡ true → table_of find new.values name ≡ table_of find old.values name
  pub low : IsLow left new.height
  pub tells : (values : Values) → Tells (table_of find new.values) new.height values → Tells (table_of find old.values) old.height values

-- whoever tells what is known, and which words are told
abbrev pub AllTelling : Find → Going → (Values → Type 0) → Type 0
AllTelling find going P = (values : Values) → values.known ≡ find.known → Tells (table_of find going.values) going.height values → P values

-- A value is kept under a height of one more than what its name met.
pub record IsPutAt (old new : BTreeMap (String Global) Known) (name : List ℕ) (met : Option ℕ) (value : List ℕ) (height : ℕ) : Type 0 where
  pub most : ℕ
  pub met_is : met ≡ Some most
  pub height_is : height ≡ most + 1
  pub absent : kept_in old name ≡ None
  pub put : (other : List ℕ) → kept_in new other ≡ update bytes_eq (kept_in old) name (Some (record { height = height; value = Some value })) other

-- or nothing is
abbrev pub IsPut : BTreeMap (String Global) Known → BTreeMap (String Global) Known → List ℕ → Option ℕ → List ℕ → Option ℕ → Type 0
IsPut old new name met value None = new ≡ old
IsPut old new name met value (Some height) = IsPutAt old new name met value height

-- The value of a name that was in expansion is kept, or none is, and what was met before counts again.
pub record IsLeft (old new : Going) (outer : Option ℕ) (name value : List ℕ) : Type 0 where
  pub own : Option ℕ
  pub put : IsPut old.values new.values name old.height value own
  pub height : new.height ≡ joined outer own

-- What a name has, where it isn't in expansion and there is room for one more.
abbrev pub IsFresh : Find → ℕ → List (List ℕ) → List ℕ → Option Resolved → Type 0
IsFresh find left names name None = (find.at name ≡ Ok None) × (is_in name names ≡ false)
IsFresh find left names name (Some found) = (find.at name ≡ Ok (Some found)) × (is_in name names ≡ false) × (1 ≤ left)

-- A name's value is known, or it has to be expanded.
abbrev pub IsAtHand : Find → ℕ → Going → Going → List ℕ → AtHand → Type 0
IsAtHand find left old new name (Value made) = ((known find left old.within.items).at name ≡ Ok made) × (new.within.items ≡ old.within.items) × Grew find left old new × AllTelling find new (λ values. values.at name ≡ Ok made)
IsAtHand find left old new name (Deeper found) = (new ≡ old) × (1 ≤ left) × IsBeyond (kept_in old.values) left name × (is_in name old.within.items ≡ false) × (find.at name ≡ Ok (Some found)) × (has_no_more found ≡ false)
