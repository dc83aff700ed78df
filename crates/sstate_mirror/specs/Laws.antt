-- What the own store has behind a bringing.
use Rattle.std.specs.Prelude.{◌≡◌, ℕ, Bool, true, List, Some, slice_get}
use Rattle.outside_traits.specs.Store.{Store}
use Rattle.meta_model.specs.CleanBuild.{Gives}
use Rattle.meta_model.specs.declared.plan.PlanTask.{PlanTask}
use Rattle.store_model.specs.declared.signature.EquivRow.{EquivRow}
use Rattle.store_model.specs.Origins.{Book, Reading}
use Rattle.store_model.specs.Signatures.{Signed}
use Rattle.store_move.specs.Formats.{IsInObject, rows_of, signatures}
use Rattle.store_move.specs.Moves.{HaveNoCollision, present}
use Rattle.sstate_mirror.specs.declared.bringing.Brought.{Brought}
use Rattle.sstate_mirror.specs.Brought.{IsDone}
use Rattle.sstate_mirror.specs.Wanted.{Titles, wanted_book}

-- A task of a plan that the mirror has by an object, by its wanted records, the own store has by one, by all its records: where neither it nor a task below it
-- collided on the mirror.
abbrev pub BroughtIsAvailable : Type 0
BroughtIsAvailable = (gives : Gives) (reading : Reading) (wanted : Titles) (own : List EquivRow) (mirror held now : Store) (start theirs : Book) (brought : Brought) → (done : IsDone gives reading wanted own mirror held now start theirs brought) →
    (tasks : List PlanTask) (keep : PlanTask → Bool) → HaveNoCollision present (wanted_book wanted done.again) tasks keep → (n : ℕ) (s later : Signed) →
    slice_get (signatures present (rows_of present (wanted_book wanted done.again)) tasks) n ≡ Some s → slice_get (signatures present brought.rows tasks) n ≡ Some later → keep s.task ≡ true → (setscene : Bool) →
    IsInObject present mirror (rows_of present (wanted_book wanted done.again)) setscene s → IsInObject present now brought.rows setscene later
