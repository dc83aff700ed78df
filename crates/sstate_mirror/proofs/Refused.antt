-- Why records don't come.
use Rattle.std.proofs.Common.{◌≡◌, ◌∙◌, sym, ap, subst, refl, ℕ, inl, inr, List, ◌++◌, Some, Result, Ok, Err}
use Rattle.std.specs.Prelude.{Contains, IfErr, IsErrAnd}
use Rattle.outside_traits.specs.declared.fault.DiskFault.{DiskFault}
use Rattle.outside_traits.specs.declared.fault.DiskFault.TheVariants as disk
use Rattle.outside_traits.specs.Store.{Store}
use Rattle.meta_model.specs.CleanBuild.{Gives}
use Rattle.store_model.specs.declared.signature.EquivRow.{EquivRow}
use Rattle.store_model.specs.Origins.{Book, Line, Reading}
use Rattle.store_model.specs.Rows.{row_at}
use Rattle.store_move.specs.Formats.{Format, row_of, rows_of}
use Rattle.store_move.specs.Moves.{Move as AMove, begun, moved_from, present}
use Rattle.store_move.proofs.Places.{row_of_line}
use Rattle.store_opening.specs.Survey.{AreJudged}
use Rattle.record_move.specs.declared.fault.MoveFault.{MoveFault}
use Rattle.record_move.specs.declared.fault.MoveFault.TheVariants as move
use Rattle.record_move.specs.declared.moving.Moved.{Moved}
use Rattle.record_move.specs.declared.records.MovedRecord.{MovedRecord}
use Rattle.record_move.specs.Faults.{IsFaultAt}
use Rattle.store_upgrade.specs.Faults.{IsDigestClash}
use Rattle.store_upgrade.proofs.Zipped.{among_stands}
use Rattle.sstate_mirror.specs.declared.fault.BringFault.{BringFault}
use Rattle.sstate_mirror.specs.declared.fault.BringFault.TheVariants as bring
use Rattle.sstate_mirror.specs.Brought.{HoldBoth}
use Rattle.sstate_mirror.specs.Faults.{IsCauseOf, IsDifference, of_disk, of_move}
use Rattle.sstate_mirror.specs.Refusals.{Differ, IsFindFault, IsMoveRefusal, IsNoFinding, IsRefusal}
use Rattle.sstate_mirror.specs.Steps.{IsFound, IsTranslated}
use Rattle.sstate_mirror.specs.Wanted.{Titles, wanted_book}
use Rattle.sstate_mirror.proofs.Copied.{found_row, one_row}
use Rattle.sstate_mirror.proofs.Judged.{judged_book, one_judged}
use Rattle.sstate_mirror.proofs.Paired.{pair_of, placed_row}
use Rattle.sstate_mirror.proofs.Ready.{lines_gathered, old_stands, prepared}

-- ---- what is no finding

pub none_cause : (fault : BringFault) → IsNoFinding fault → IsCauseOf fault
none_cause bring.Mirror none = tt
none_cause bring.Disk none = tt
none_cause (bring.Collision name held given) none = absurd none
none_cause (bring.KeyCollision name held given) none = absurd none
none_cause (bring.Differs pn task held given) none = absurd none
none_cause bring.Memory none = tt

pub none_difference : (theirs : List EquivRow) (fault : BringFault) → IsNoFinding fault → IsDifference theirs fault
none_difference theirs bring.Mirror none = tt
none_difference theirs bring.Disk none = tt
none_difference theirs (bring.Collision name held given) none = tt
none_difference theirs (bring.KeyCollision name held given) none = tt
none_difference theirs (bring.Differs pn task held given) none = absurd none
none_difference theirs bring.Memory none = tt

-- ---- clashes

clash_cause : (m : MoveFault) → IsDigestClash m → IsCauseOf (of_move m)
clash_cause (move.Collision name held given) clash = clash
clash_cause (move.KeyCollision name held given) clash = clash
clash_cause move.Memory clash = tt

clash_difference : (theirs : List EquivRow) (m : MoveFault) → IsDifference theirs (of_move m)
clash_difference theirs (move.Collision name held given) = tt
clash_difference theirs (move.KeyCollision name held given) = tt
clash_difference theirs move.Memory = tt

clash_at : (form : Format) (m : AMove) (keys : List (List ℕ)) (line : Line) (fault : MoveFault) → IsFaultAt form m keys line fault → IsDigestClash fault
clash_at form m keys line (move.Collision name held given) f = (f.7, f.5, f.6)
clash_at form m keys line (move.KeyCollision name held given) f = (f.4, f.2, f.3)
clash_at form m keys line move.Memory f = tt

-- ---- where both stores hold books

module _ (gives : Gives) (reading : Reading) (wanted : Titles) (own : List EquivRow) (mirror held : Store) (start theirs : Book) (both : HoldBoth gives reading own held mirror start theirs) (rows : List EquivRow) (judged : AreJudged mirror rows) where
  move_cause : (fault : BringFault) → IsMoveRefusal wanted rows own fault → IsCauseOf fault
  move_cause fault r =
      let j = judged_book gives reading mirror theirs both.mirror_valid both.mirror_readable rows judged in
      let f = r.refused present (wanted_book wanted j.again) start (lines_gathered gives reading wanted own mirror held start theirs both rows j r.records r.gathered) both.rows_are in
      subst IsCauseOf (sym r.is) (clash_cause r.move (clash_at present (moved_from present present (begun start) f.front) (r.keys ++ f.known) f.line r.move f.cause))

  -- a record that came has the manifest that it has on the mirror
  never_two : (moved : Moved) (f : IsFound wanted own mirror moved) → f.theirs ≡ rows → (m : MovedRecord) → Contains moved.records.items m → (here there : EquivRow) → row_at moved.rows m.name ≡ Some here → row_at rows m.old_name ≡ Some there → here.manifest ≡ there.manifest
  never_two moved f same m among here there at_here at_there =
      let p = prepared gives reading wanted own mirror held start theirs both moved f in
      let w = pair_of gives reading (wanted_book wanted p.again) start p.may moved p.told m among in
      let new : here ≡ row_of present w.0.new = one_row moved.rows m.name here (row_of present w.0.new) at_here (placed_row gives reading (wanted_book wanted p.again) start p.may moved p.told w.0 m w.1 w.2) in
      let s = old_stands gives reading wanted own mirror held start theirs moved p w.0.old (among_stands (wanted_book wanted p.again) w.1.old_before w.0.old w.1.old_stands) in
      let found : row_at rows m.old_name ≡ Some (row_of present w.0.old) =
      (λ i. row_at (one_judged mirror rows (rows_of present p.again) judged p.taken.judged i) (w.2.old_name i))
      ∙ row_of_line present p.again s.0 w.0.old (λ before line t. let v = s.2 before line t in v.new) s.1 in
      let old : there ≡ row_of present w.0.old = one_row rows m.old_name there (row_of present w.0.old) at_there found in
      ap (λ (r : EquivRow). r.manifest) new ∙ w.1.manifest ∙ sym (ap (λ (r : EquivRow). r.manifest) old)

  differ_cause : (moved : Moved) (f : IsFound wanted own mirror moved) → f.theirs ≡ rows → (m : MovedRecord) → Contains moved.records.items m → (fault : BringFault) → Differ rows moved.rows m fault → IsCauseOf fault
  differ_cause moved f same m among bring.Mirror d = absurd d
  differ_cause moved f same m among bring.Disk d = absurd d
  differ_cause moved f same m among (bring.Collision name held' given) d = absurd d
  differ_cause moved f same m among (bring.KeyCollision name held' given) d = absurd d
  differ_cause moved f same m among (bring.Differs pn task held' given) d = d.differ (sym d.held_is ∙ never_two moved f same m among d.here d.there d.at_here d.at_there ∙ d.given_is)
  differ_cause moved f same m among bring.Memory d = tt

  refusal_cause : (fault : BringFault) → IsRefusal wanted rows own fault → IsCauseOf fault
  refusal_cause fault (inl none) = none_cause fault none
  refusal_cause fault (inr (inl r)) = subst IsCauseOf (sym r.is) (clash_cause r.move r.clash)
  refusal_cause fault (inr (inr (inl r))) = move_cause fault r
  refusal_cause fault (inr (inr (inr r))) = differ_cause r.moved (record { theirs = rows; judged = judged; translated = r.translated }) refl r.m r.among fault r.differ

-- ---- whatever they hold

two_difference : (rows mine : List EquivRow) (m : MovedRecord) (fault : BringFault) → Differ rows mine m fault → IsDifference rows fault
two_difference rows mine m bring.Mirror d = absurd d
two_difference rows mine m bring.Disk d = absurd d
two_difference rows mine m (bring.Collision name held given) d = absurd d
two_difference rows mine m (bring.KeyCollision name held given) d = absurd d
two_difference rows mine m (bring.Differs pn task held given) d = (d.differ, (d.there, found_row rows m.old_name d.there d.at_there, d.pn_is, d.task_is, d.given_is))
two_difference rows mine m bring.Memory d = tt

refusal_difference : (wanted : Titles) (rows own : List EquivRow) (fault : BringFault) → IsRefusal wanted rows own fault → IsDifference rows fault
refusal_difference wanted rows own fault (inl none) = none_difference rows fault none
refusal_difference wanted rows own fault (inr (inl r)) = subst (IsDifference rows) (sym r.is) (clash_difference rows r.move)
refusal_difference wanted rows own fault (inr (inr (inl r))) = subst (IsDifference rows) (sym r.is) (clash_difference rows r.move)
refusal_difference wanted rows own fault (inr (inr (inr r))) = two_difference rows r.moved.rows r.m fault r.differ

-- ---- what is answered

pub find_cause : (wanted : Titles) (own : List EquivRow) (mirror held : Store) (fault : BringFault) → IsFindFault wanted own mirror fault → (gives : Gives) (reading : Reading) (start theirs : Book)
    → HoldBoth gives reading own held mirror start theirs → IsCauseOf fault
find_cause wanted own mirror held fault (inl none) gives reading start theirs both = none_cause fault none
find_cause wanted own mirror held fault (inr (rows, judged, r)) gives reading start theirs both = refusal_cause gives reading wanted own mirror held start theirs both rows judged fault r

pub find_difference : (wanted : Titles) (own : List EquivRow) (mirror : Store) (fault : BringFault) → IsFindFault wanted own mirror fault → (theirs : List EquivRow) → AreJudged mirror theirs → IsDifference theirs fault
find_difference wanted own mirror fault (inl none) theirs are = none_difference theirs fault none
find_difference wanted own mirror fault (inr (rows, judged, r)) theirs are = subst (λ (l : List EquivRow). IsDifference l fault) (one_judged mirror rows theirs judged are) (refusal_difference wanted rows own fault r)

-- ---- what is handed on

pub err_of : {T : Type 0} (P : BringFault → Type 0) (r : Result T BringFault) (fault : BringFault) → IsErrAnd r (λ e. e ≡ fault) → P fault → IfErr r P
err_of P (Ok x) fault is p = tt
err_of P (Err e) fault is p = subst P (sym is) p

pub agree_refused : (wanted : Titles) (theirs own : List EquivRow) (moved : Moved) (fault : BringFault) → IsTranslated wanted theirs own moved → (m : MovedRecord) × Contains moved.records.items m × Differ theirs moved.rows m fault → IsRefusal wanted theirs own fault
agree_refused wanted theirs own moved fault t d = inr (inr (inr (record { moved = moved; translated = t; m = d.0; among = d.1; differ = d.2 })))

none_of : (given : DiskFault) → IsNoFinding (of_disk given)
none_of disk.Failed = tt
none_of disk.Memory = tt

-- a disk's fault is no finding
pub disk_none : {T : Type 0} (r : Result T BringFault) (given : DiskFault) → IsErrAnd r (λ e. e ≡ of_disk given) → IfErr r IsNoFinding
disk_none r given is = err_of IsNoFinding r (of_disk given) is (none_of given)
