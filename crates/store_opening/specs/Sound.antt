-- What every store keeps.
use Rattle.std.specs.Prelude.{List}
use Rattle.outside_traits.specs.Story.{Story}
use Rattle.store_model.specs.declared.signature.EquivRow.{EquivRow}
use Rattle.store_model.specs.Readable.{HoldsRecords}
use Rattle.store_opening.specs.Paths.{IsLaidOut}

-- What a store keeps of its disk, where that tells: paths under `rec2/` and `tmp/` are such as the store makes, and each image holds the records
-- of all rows.
pub record IsKept (rows : List EquivRow) (story : Story) : Type 0 where
  pub laid_out : IsLaidOut story.held
  pub stored : HoldsRecords story rows
