use Rattle.std.proofs.Common.{◌≡◌, None, take}
use Rattle.std.specs.Prelude.{find}
use Rattle.std.specs.Map.{values_of}
use Rattle.store_model.specs.Rows.{is_row_for}
use Rattle.hash_equiv.specs.Index.{rows_at}
use Rattle.hash_equiv.proofs.index.first_at.Given as goal

abbrev pub invariant-loop-place : goal.invariant-loop-place
invariant-loop-place l = find (is_row_for l.pn l.task l.manifest) (rows_at (values_of l.rows.entries) (take l.place-index l.places)) ≡ None
