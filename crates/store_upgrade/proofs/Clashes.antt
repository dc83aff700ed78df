-- Why a move isn't made: two texts have one digest.
use Rattle.std.proofs.Common.{◌≡◌, ◌++◌, sym, subst, List, ℕ, Result, Ok, Err}
use Rattle.std.specs.Prelude.{IfErr, IsErrAnd}
use Rattle.outside_traits.specs.Store.{Store}
use Rattle.outside_traits.specs.declared.fault.DiskFault.{DiskFault}
use Rattle.meta_model.specs.CleanBuild.{Gives}
use Rattle.store_model.specs.declared.signature.EquivRow.{EquivRow}
use Rattle.store_model.specs.Origins.{Book, Line, Reading}
use Rattle.store_move.specs.First.{first}
use Rattle.store_move.specs.Formats.{Format, rows_of}
use Rattle.store_move.specs.Moves.{Move as AMove, begun, moved_from, present}
use Rattle.record_move.specs.declared.fault.MoveFault.{MoveFault}
use Rattle.record_move.specs.declared.fault.MoveFault.TheVariants.{Collision, KeyCollision, Memory}
use Rattle.record_move.specs.declared.records.OldRecord.{OldRecord}
use Rattle.record_move.specs.Faults.{IsFaultAt, IsMoveFault}
use Rattle.record_move.specs.Moved.{AreLinesOf}
use Rattle.store_upgrade.specs.declared.fault.UpgradeFault.{UpgradeFault}
use Rattle.store_upgrade.specs.declared.fault.UpgradeFault.TheVariants.{Disk, Move}
use Rattle.store_upgrade.specs.Faults.{IsCauseOf, IsDigestClash}
use Rattle.store_upgrade.specs.Halfway.{HoldsBoth}
use Rattle.store_upgrade.proofs.Made.{IsRead, asked_of}

clash_at : (form : Format) (move : AMove) (keys : List (List ℕ)) (line : Line) (fault : MoveFault) → IsFaultAt form move keys line fault → IsDigestClash fault
clash_at form move keys line (Collision name held given) f = (f.7, f.5, f.6)
clash_at form move keys line (KeyCollision name held given) f = (f.4, f.2, f.3)
clash_at form move keys line Memory f = tt

-- where the store has a book of each format, a refused move has met two texts of one digest
pub clash_of : (entry held : Store) (rows : List EquivRow) (records : List OldRecord) (keys : List (List ℕ)) → IsRead entry held rows records keys → (fault : MoveFault)
    → ((form : Format) (book start : Book) → AreLinesOf form records book → rows ≡ rows_of present start → IsMoveFault form start book keys fault)
    → (gives : Gives) (reading : Reading) (book start : Book) → HoldsBoth gives reading entry book start → IsDigestClash fault
clash_of entry held rows records keys read fault refused gives reading book start both =
    let a = asked_of entry held rows records keys read gives reading book start both in
    let f = refused first a.olds a.again a.old_lines a.rows_are in
    clash_at first (moved_from first present (begun a.again) f.front) (keys ++ f.known) f.line fault f.cause

abbrev pub HasClash : Store → UpgradeFault → Type 0
HasClash entry fault = (gives : Gives) (reading : Reading) (book start : Book) → HoldsBoth gives reading entry book start → IsCauseOf fault

-- what is handed on is its cause
pub move_refused : {T : Type 0} (entry : Store) (r : Result T UpgradeFault) (fault : MoveFault) → IsErrAnd r (λ e. e ≡ Move fault)
    → ((gives : Gives) (reading : Reading) (book start : Book) → HoldsBoth gives reading entry book start → IsDigestClash fault) → IfErr r (HasClash entry)
move_refused entry (Ok x) fault is clash = tt
move_refused entry (Err e) fault is clash = λ gives reading book start both. subst IsCauseOf (sym is) (clash gives reading book start both)

pub disk_refused : {T : Type 0} (entry : Store) (r : Result T UpgradeFault) (fault : DiskFault) → IsErrAnd r (λ e. e ≡ Disk fault) → IfErr r (HasClash entry)
disk_refused entry (Ok x) fault is = tt
disk_refused entry (Err e) fault is = λ gives reading book start both. subst IsCauseOf (sym is) tt
