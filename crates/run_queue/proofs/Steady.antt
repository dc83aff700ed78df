-- Why a fault that a run keeps isn't that an output differs from one run to another.
use Rattle.std.proofs.Common.{◌≡◌, ◌∙◌, sym, ap, subst, ℕ, ◌<◌, ◌⊎◌, inl, inr, false, List, [], ◌++◌, ◌∷◌, length, Some, None, append-nil}
use Rattle.std.specs.Prelude.{Option}
use Rattle.tree_model.specs.Manifest.{manifest_lines}
use Rattle.meta_model.specs.CleanBuild.{Entries}
use Rattle.tale_model.specs.declared.fate.Fate.TheVariants as fate
use Rattle.tale_model.specs.Fates.{fate_at, fates_told}
use Rattle.tale_model.specs.History.{EachAfter}
use Rattle.run_core.specs.History.{IsOrderly}
use Rattle.store_model.specs.declared.signature.EquivRow.{EquivRow}
use Rattle.store_model.specs.Origins.{row_of, rows_of}
use Rattle.store_model.specs.Recording.{recorded}
use Rattle.store_model.specs.Rows.{row_at}
use Rattle.store_model.specs.Signatures.{Signed}
use Rattle.store_model.specs.Spelling.{name_of, signature_bytes}
use Rattle.store_model.specs.Valid.{IsValidLine}
use Rattle.build_store.specs.Faults.{IsRefusal}
use Rattle.store_model.specs.Lines.{HasLine}
use Rattle.build_store.specs.Publication.{IsAgreed, publication}
use Rattle.build_store.specs.declared.fault.StoreFault.{StoreFault}
use Rattle.build_store.specs.declared.fault.StoreFault.TheVariants as fault_of
use Rattle.run_queue.specs.declared.fault.RunFault.{RunFault}
use Rattle.run_queue.specs.Keeps.{IsRun, IsSteady, IsSteadyAnswer, IsUpToDate}
use Rattle.run_model.specs.Opening.{Opening}
use Rattle.run_queue.specs.Puts.{IsCleanOutput, IsSignedAt}
use Rattle.run_queue.specs.Seen.{Known, Seen}
use Rattle.run_queue.proofs.Putting.{book_now}
use Rattle.run_queue.proofs.Turning.{IsReady, ready}

-- ---- by the answer

pub steady_none : (f : Option RunFault) → f ≡ None → IsSteady f
steady_none None e = tt
steady_none (Some f) e = absurd (let n : Some f ≡ None = e in cc)

-- a publication of what agrees with the task's record
pub refusal_steady : (rows : List EquivRow) (keys : List (List ℕ)) (s : Signed) (tree : Entries) (f : StoreFault) → IsAgreed rows s tree → IsRefusal rows keys s tree f → IsSteadyAnswer f
refusal_steady rows keys s tree fault_of.Disk agreed is = tt
refusal_steady rows keys s tree (fault_of.Collision name held given) agreed is = tt
refusal_steady rows keys s tree (fault_of.Unsteady pn task held given) agreed is = is.differ (agreed is.row is.is_row).1
refusal_steady rows keys s tree fault_of.Memory agreed is = tt

-- ---- a clean output agrees with the task's record

row_is : (row : EquivRow) (o : Option EquivRow) (s : Signed) (tree : Entries) → o ≡ Some row → (line : Rattle.store_model.specs.Origins.Line) → line.sig ≡ s.sig → line.manifest ≡ manifest_lines tree → o ≡ Some (row_of line) → (row.sig ≡ signature_bytes s.sig) × (row.manifest ≡ manifest_lines tree)
row_is row o s tree at line sig manifest is =
    let both : Some row ≡ Some (row_of line) = sym at ∙ is in
    let one : row ≡ row_of line = cc in
    (ap (λ (r : EquivRow). r.sig) one ∙ ap signature_bytes sig, ap (λ (r : EquivRow). r.manifest) one ∙ manifest)

ready_agreed : (o : Opening) (s : Seen) (t : ℕ) (tree : Entries) (r : IsReady o s t tree) → IsAgreed (rows_of (book_now o s)) r.sg tree
ready_agreed o s t tree r row at = by r.put.stands
  where
    by : (HasLine (book_now o s) r.put.line × (r.put.more ≡ []) × ((publication (rows_of (book_now o s)) r.sg tree).is_new ≡ false)) ⊎ (IsValidLine o.gives o.reading (book_now o s) r.put.line × (r.put.more ≡ r.put.line ∷ []) × (row_at (rows_of (book_now o s)) (name_of r.sg.sig) ≡ None) × (r.put.line ≡ recorded (rows_of (book_now o s)) r.sg tree))
        → (row.sig ≡ signature_bytes r.sg.sig) × (row.manifest ≡ manifest_lines tree)
    by (inl known) = row_is row (row_at (rows_of (book_now o s)) (name_of r.sg.sig)) r.sg tree at r.put.line r.put.sig r.put.manifest
        (ap (λ b. row_at (rows_of b) (name_of r.sg.sig)) (sym (ap (λ m. book_now o s ++ m) known.1 ∙ append-nil (book_now o s))) ∙ r.put.row)
    by (inr new) = absurd (let n : None ≡ Some row = sym new.2 ∙ at in cc)

pub agreed : (o : Opening) (s : Seen) (k : Known) (t seat : ℕ) (tree : Entries) → IsRun o s → s.fault ≡ None → EachAfter (IsOrderly s.plan.tasks) s.tale → IsUpToDate s.plan s.rows k → t < length s.plan.tasks → fate_at (fates_told (length s.plan.tasks) s.tale) t ≡ fate.Running seat → IsCleanOutput o.gives s.plan.tasks t tree
    → (x : Signed) → IsSignedAt s.rows s.plan.tasks t x → IsAgreed s.rows x tree
agreed o s k t seat tree run faultless orderly now lt runs output x is =
    let r = ready o s k t seat tree run faultless orderly now lt runs output in
    let both : Some r.sg ≡ Some x = sym r.signed ∙ is in
    let one : r.sg ≡ x = cc in
    subst (λ (y : Signed). IsAgreed s.rows y tree) one (subst (λ (rows : List EquivRow). IsAgreed rows r.sg tree) (sym run.rows) (ready_agreed o s t tree r))
