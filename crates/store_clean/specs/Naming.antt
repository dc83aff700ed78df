-- Which records of a store name which.
use Rattle.std.specs.Prelude.{◌≡◌, ◌↔◌, ◌<◌, ℕ, suc, List, [], ◌∷◌, ◌++◌, Contains, Option, Some, None, if◌then◌else◌, length, map, slice_get}
use Rattle.std.specs.Option.{option_map}
use Rattle.tree_model.specs.declared.hash.Hash.{Hash}
use Rattle.store_model.specs.declared.signature.DepLine.{DepLine}
use Rattle.store_model.specs.declared.signature.EquivRow.{EquivRow}
use Rattle.store_model.specs.declared.signature.ShortStored.{ShortStored}
use Rattle.store_model.specs.Readable.{IsRow}
use Rattle.store_model.specs.Rows.{hash_eq}
use Rattle.store_keep.specs.Keep.{Names}

-- the names that a record has: those of the tasks that it needs, and its unihash
abbrev pub names_in : ShortStored → List Hash
names_in stored = map (λ (d : DepLine). d.name) stored.sig.deps ++ stored.unihash ∷ []

-- the record of the row has this name
pub record RowNames (row : EquivRow) (name : Hash) : Type 0 where
  pub known : IsRow row
  pub named : Contains (names_in known.stored) name

abbrev pub names_of : List EquivRow → List Hash
names_of rows = map (λ (r : EquivRow). r.name) rows

-- the first place at which a name stands
abbrev pub place_in : List Hash → Hash → Option ℕ
place_in [] name = None
place_in (first ∷ names) name = if hash_eq first name then Some 0 else option_map suc (place_in names name)

-- the row at one place names that at an earlier one
pub record NamesEarlier (rows : List EquivRow) (v w : ℕ) : Type 0 where
  pub earlier : w < v
  pub row : EquivRow
  pub stands : slice_get rows v ≡ Some row
  pub name : Hash
  pub named : RowNames row name
  pub place : place_in (names_of rows) name ≡ Some w

-- what each row names among the earlier ones, by places
pub record AreEdges (rows : List EquivRow) (edges : List (List ℕ)) : Type 0 where
  pub long : length edges ≡ length rows
  pub each : (v w : ℕ) → Names edges v w ↔ NamesEarlier rows v w
