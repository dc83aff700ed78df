-- What is found of a task by the row of its name.
use Rattle.std.proofs.Common.{◌≡◌, ◌∙◌, sym, ap, subst, ℕ, List, Bool, true, false, ◌&&◌, inl, inr, Option, Some, Result, Ok, Err}
use Rattle.std.proofs.lemmas.Bool.{false≢true}
use Rattle.std.specs.Prelude.{IfOk, OnOk}
use Rattle.tree_model.specs.declared.hash.Hash.{Hash}
use Rattle.outside_traits.specs.Store.{Store}
use Rattle.meta_model.specs.declared.event.Avail.{Avail}
use Rattle.meta_model.specs.declared.event.Avail.TheVariants as avail
use Rattle.meta_model.proofs.Bools.{and_left, and_right, both}
use Rattle.store_model.specs.declared.signature.EquivRow.{EquivRow}
use Rattle.store_model.specs.Available.{IsAvailable, IsInObject, IsInWork, IsStored}
use Rattle.store_model.specs.Rows.{row_at}
use Rattle.store_model.specs.Signatures.{Signed}
use Rattle.store_model.specs.Spelling.{name_of, signature_bytes}
use Rattle.build_store.specs.declared.fault.StoreFault.{StoreFault}
use Rattle.build_store.specs.declared.fault.StoreFault.TheVariants as fault
use Rattle.build_store.specs.Faults.{IsClash}
use Rattle.build_store.specs.Finding.{IsAnswered, IsOtherOrOutside, IsSharedOf, IsThere, IsThereAtAll, IsWorkOf}
use Rattle.store_model.specs.Publication.{stamp_file}
use Rattle.build_store.proofs.Rows.{clash, row_named}

some_same : {A : Type 0} (x y : A) (o : Option A) → o ≡ Some x → o ≡ Some y → x ≡ y
some_same x y o p q = cc

module _ (rows : List EquivRow) (s : Signed) (row : EquivRow) (setscene : Bool) (held : Store) (is : row_at rows (name_of s.sig) ≡ Some row) (sig : row.sig ≡ signature_bytes s.sig) where
  stored : IsStored rows s row
  stored = record { is_row = is; sig = sig }

  name_is : row.name ≡ name_of s.sig
  name_is = row_named rows (name_of s.sig) row is

  work : s.task.nostamp ≡ false → IsWorkOf s.task row held → IsInWork held rows s
  work kept w = record { kept = kept; row = row; stored = stored; stamp = w.stamp ∙ ap (λ n. Some (stamp_file n)) name_is; folder = w.folder }

  work_back : IsInWork held rows s → IsWorkOf s.task row held
  work_back w =
      let same : w.row ≡ row = some_same w.row row (row_at rows (name_of s.sig)) w.stored.is_row is in
      subst (λ r. IsWorkOf s.task r held) same (record { stamp = w.stamp ∙ ap (λ n. Some (stamp_file n)) (sym (row_named rows (name_of s.sig) w.row w.stored.is_row)); folder = w.folder })

  object : s.task.nostamp ≡ false → IsSharedOf (setscene && s.task.sstate) row held → IsInObject held rows setscene s
  object kept o = record { kept = kept; sstate = and_right setscene s.task.sstate o.counted; counts = and_left setscene s.task.sstate o.counted; row = row; stored = stored; object = o.object }

  object_back : IsInObject held rows setscene s → IsSharedOf (setscene && s.task.sstate) row held
  object_back o =
      let same : o.row ≡ row = some_same o.row row (row_at rows (name_of s.sig)) o.stored.is_row is in
      subst (λ r. IsSharedOf (setscene && s.task.sstate) r held) same (record { counted = both setscene s.task.sstate o.counts o.sstate; object = o.object })

  kept_there : (there : Avail) → s.task.nostamp ≡ false → IsThere s.task row setscene held there → IsAvailable held rows setscene s there
  kept_there avail.Work kept w = work kept w
  kept_there avail.Object kept o = (λ w. o.0 (work_back w), object kept o.1)
  kept_there avail.Missing kept m = (λ w. m.0 (work_back w), λ o. m.1 (object_back o))

  never : s.task.nostamp ≡ true → IsAvailable held rows setscene s avail.Missing
  never always = (λ w. false≢true (sym w.kept ∙ always), λ o. false≢true (sym o.kept ∙ always))

  there_at : (there : Avail) → IsThereAtAll s.task row setscene held there → IsAvailable held rows setscene s there
  there_at there (inl n) = subst (IsAvailable held rows setscene s) (sym n.1) (never n.0)
  there_at there (inr k) = kept_there there k.0 k.1

-- how a task is there
pub found_there : (rows : List EquivRow) (s : Signed) (row : EquivRow) (setscene : Bool) (held : Store) (r : Result Avail StoreFault) → row_at rows (name_of s.sig) ≡ Some row → OnOk r (row.sig ≡ signature_bytes s.sig)
    → IfOk r (IsThereAtAll s.task row setscene held) → IfOk r (IsAvailable held rows setscene s)
found_there rows s row setscene held (Ok there) is sig at = there_at rows s row setscene held is sig there at
found_there rows s row setscene held (Err f) is sig at = tt

-- the row is clear, and it is there
pub answered_there : (rows : List EquivRow) (s : Signed) (row : EquivRow) (r : Result Avail StoreFault) → row_at rows (name_of s.sig) ≡ Some row → OnOk r (row.sig ≡ signature_bytes s.sig) → IfOk r (IsAnswered rows s)
answered_there rows s row (Ok there) is sig = record { clear = λ other at. ap (λ x. x.sig) (some_same other row (row_at rows (name_of s.sig)) at is) ∙ sig; stored = λ ne. (row, is) }
answered_there rows s row (Err f) is sig = tt

pub clash_there : (rows : List EquivRow) (name : Hash) (bytes : List ℕ) (row : EquivRow) (f : StoreFault) → row_at rows name ≡ Some row → IsOtherOrOutside row bytes f → IsClash rows name bytes f
clash_there rows name bytes row fault.Disk is other = tt
clash_there rows name bytes row fault.Memory is other = tt
clash_there rows name bytes row (fault.Collision n held given) is other = clash rows name bytes row (fault.Collision n held given) is other
clash_there rows name bytes row (fault.Unsteady pn task held given) is other = absurd other
