-- What an index in memory stands for.
use Rattle.std.specs.Prelude.{◌≡◌, ℕ, List, [], Some, None, map}
use Rattle.std.specs.HashMap.{HashMap}
use Rattle.std.specs.declared.hash.FoldHasher.{FoldHasher}
use Rattle.std.specs.declared.hash.BuildHasherDefault.{BuildHasherDefault}
use Rattle.tree_model.specs.declared.hash.Hash.{Hash}
use Rattle.meta_model.specs.declared.event.Avail.TheVariants.{Object}
use Rattle.store_model.specs.declared.signature.EquivRow.{EquivRow}
use Rattle.store_model.specs.Rows.{row_at}
use Rattle.setscene_plan.specs.View.{Says, View}
use Rattle.run_tests.specs.declared.index.Index.{Index}
use Rattle.run_tests.specs.declared.index.Row.{Row}

-- the row of an entry: what of it the index doesn't keep is empty
abbrev pub row_of : List ℕ × Row → EquivRow
row_of entry = record { name = record { bytes = entry.0 }; pn = []; task = []; sig = entry.1.sig; manifest = []; unihash = entry.1.unihash }

-- the records of an index, by the bytes of their names
abbrev pub Rows : Type 0
Rows = HashMap (List ℕ) Row (BuildHasherDefault FoldHasher)

abbrev pub rows_of : Rows → List EquivRow
rows_of rows = map row_of rows.entries

-- the plan, and a row for each record
abbrev pub view_of : Index → View
view_of index = record { plan = index.plan.now; rows = rows_of index.rows }

-- of outputs it tells that none is an object in the store
abbrev pub no_objects : Says
no_objects t sig there = there ≡ Object → ⊥

-- A row of this name has these bytes, no row is gone, and those of other names are as they were.
pub record Puts (name : Hash) (sig : List ℕ) (old new : Rows) : Type 0 where
  pub here : (row : EquivRow) → row_at (rows_of new) name ≡ Some row → row.sig ≡ sig
  pub kept : (other : Hash) → row_at (rows_of new) other ≡ None → row_at (rows_of old) other ≡ None
  pub others : (other : Hash) → (name ≡ other → ⊥) → row_at (rows_of new) other ≡ row_at (rows_of old) other
