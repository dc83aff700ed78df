use Rattle.std.proofs.Common.{◌∙◌, ap, sym, subst, List}
use Rattle.store_model.specs.declared.signature.EquivRow.{EquivRow}
use Rattle.store_move.specs.Formats.{IsInObject, signatures}
use Rattle.store_move.specs.Moves.{present}
use Rattle.store_move.proofs.Naming.{objects_are_moved}
use Rattle.std.specs.Prelude.{slice_get}
use Rattle.sstate_mirror.specs.Wanted.{wanted_book}
use Rattle.sstate_mirror.proofs.laws.brought_is_available.Goals as goal

pub returns : goal.returns
returns c gives reading wanted own mirror held now start theirs brought done tasks keep clear n s later at too kept setscene has =
    subst (λ (rows : List EquivRow). IsInObject present now rows setscene later) (sym done.rows_are)
    (objects_are_moved present present gives reading (wanted_book wanted done.again) start done.may mirror now done.objects tasks keep clear n s later at
    (ap (λ (rows : List EquivRow). slice_get (signatures present rows tasks) n) (sym done.rows_are) ∙ too) kept setscene has)
