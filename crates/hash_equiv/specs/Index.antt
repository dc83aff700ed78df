-- What an index keeps beside its rows: for each PN the places of its rows.
use Rattle.std.specs.Prelude.{◌≡◌, ℕ, ◌<◌, List, [], Some, length, slice_get, filter, filter_map, unwrap_or, bytes_eq, String}
use Rattle.std.specs.List.{AllByRecursion}
use Rattle.std.specs.BTreeMap.{BTreeMap, get_by_text}
use Rattle.std.specs.Map.{values_of}
use Rattle.std.specs.declared.alloc.Global.{Global}
use Rattle.store_model.specs.declared.signature.EquivRow.{EquivRow}
use Rattle.tree_model.specs.declared.hash.Hash.{Hash}

-- the places that are kept for a PN
abbrev pub places_of : BTreeMap (String Global) (List ℕ) → List ℕ → List ℕ
places_of map pn = unwrap_or (get_by_text map pn) []

-- the rows at these places
abbrev pub rows_at : List EquivRow → List ℕ → List EquivRow
rows_at rows places = filter_map (slice_get rows) places

-- the rows of a PN, in their order
abbrev pub rows_of : List EquivRow → List ℕ → List EquivRow
rows_of rows pn = filter (λ r. bytes_eq r.pn pn) rows

-- Each row stands under the bytes of its name, and the places of a PN are just those of its rows.
pub record IsIndex (entries : List (List ℕ × EquivRow)) (of_pn : BTreeMap (String Global) (List ℕ)) : Type 0 where
  pub named : AllByRecursion (λ e. e.0 ≡ e.1.name.bytes) entries
  pub found : (pn : List ℕ) → rows_at (values_of entries) (places_of of_pn pn) ≡ rows_of (values_of entries) pn
  pub within : (pn : List ℕ) → AllByRecursion (λ i. i < length entries) (places_of of_pn pn)

-- a row has this signature, and this name
pub record IsNameIn (rows : List EquivRow) (sig : List ℕ) (name : Hash) : Type 0 where
  pub row : EquivRow
  pub place : ℕ
  pub stands : slice_get rows place ≡ Some row
  pub signed : row.sig ≡ sig
  pub named : row.name ≡ name
