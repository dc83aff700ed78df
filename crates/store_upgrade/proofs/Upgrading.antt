-- A store whose records were moved is upgraded.
use Rattle.std.proofs.Common.{List, ℕ}
use Rattle.outside_traits.specs.Store.{Store}
use Rattle.meta_model.specs.CleanBuild.{Gives}
use Rattle.store_model.specs.declared.signature.EquivRow.{EquivRow}
use Rattle.store_model.specs.Origins.{Book, Reading}
use Rattle.store_move.specs.Stores.{IsDone}
use Rattle.record_move.specs.declared.moving.Moved.{Moved}
use Rattle.record_move.specs.declared.records.OldRecord.{OldRecord}
use Rattle.store_upgrade.specs.Upgraded.{IsUpgraded, IsWholeMove}
use Rattle.store_upgrade.specs.Writes.{AreWritten, IsWritten}
use Rattle.store_upgrade.proofs.Asked.{IsAsked}
use Rattle.store_upgrade.proofs.Carried.{is_brought}
use Rattle.store_upgrade.proofs.Made.{IsMade, IsRead, asked_of, may, told}
use Rattle.store_upgrade.proofs.Readied.{written_readable, written_valid}

module _ (entry held now : Store) (rows : List EquivRow) (records : List OldRecord) (keys : List (List ℕ)) (read : IsRead entry held rows records keys) (moved : Moved)
    (m : IsMade rows records keys moved) (w : IsWritten moved held now) (written : AreWritten moved) where
  whole_of : (gives : Gives) (reading : Reading) (book start : Book) → IsAsked gives reading held book start rows records keys → IsWholeMove gives reading entry now book start
  whole_of gives reading book start a = record {
    olds = a.olds;
    again = a.again;
    taken = a.taken;
    may = may gives reading held book start rows records keys a moved m;
    valid = written_valid gives reading held book start rows records keys a moved m now w;
    readable = written_readable gives reading held book start rows records keys a moved m written;
    brought = is_brought gives reading entry held now rows read.opened a.olds a.again (may gives reading held book start rows records keys a moved m) a.old_readable moved (told gives reading held book start rows records keys a moved m) w;
  }

  pub is_upgraded : (IsDone entry → ⊥) → IsUpgraded entry now
  is_upgraded old = record {
    done = w.done;
    was_done = λ done. absurd (old done);
    moved = λ never gives reading book start both. whole_of gives reading book start (asked_of entry held rows records keys read gives reading book start both);
  }
