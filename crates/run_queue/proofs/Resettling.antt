-- Behind a publication what is known of the plan's tasks is right but for the task's own name.
use Rattle.std.proofs.Common.{true, false, length, ◌≡◌, ◌∙◌, sym, ap, subst, refl, ℕ, ◌<◌, List, [], ◌∷◌, ◌++◌, Option, Some, None, inl, inr, slice_get}
use Rattle.std.specs.Prelude.{IfSome, is_none, if◌then◌else◌}
use Rattle.std.specs.Option.{option_map, option_or}
use Rattle.std.proofs.lemmas.List.Folds.{find-append}
use Rattle.std.proofs.lemmas.Option.{same_Some}
use Rattle.meta_model.proofs.Bools.{either_way}
use Rattle.meta_model.specs.CleanBuild.{Entries}
use Rattle.meta_model.specs.declared.plan.Plan.{Plan}
use Rattle.plan_model.specs.Sound.{IsSound}
use Rattle.run_core.specs.Need.{AreOrdered}
use Rattle.tree_model.specs.declared.hash.Hash.{Hash}
use Rattle.sig_gen.specs.Signing.{signature_by}
use Rattle.store_model.specs.declared.signature.EquivRow.{EquivRow}
use Rattle.store_model.specs.declared.signature.SigRecord.{SigRecord}
use Rattle.store_model.specs.Origins.{row_of}
use Rattle.store_model.specs.Rows.{hash_eq, row_at}
use Rattle.store_model.specs.Signatures.{Signed}
use Rattle.store_model.specs.Spelling.{name_of, signature_bytes}
use Rattle.store_model.proofs.Listing.{hash_itself, hash_same}
use Rattle.store_model.proofs.Staying.{row_stays}
use Rattle.build_store.specs.Publication.{line_for, rows_with}
use Rattle.build_store.specs.View.{View}
use Rattle.meta_model.specs.declared.event.Avail.{Avail}
use Rattle.setscene_plan.specs.declared.replan.Replan.{Replan}
use Rattle.setscene_plan.specs.Replans.{AreSettling, IsCurrent, IsSettled, names_in, unihashes_in}
use Rattle.setscene_plan.specs.View.{Says}
use Rattle.setscene_plan.proofs.Meanings.{current_follows}
use Rattle.setscene_plan.proofs.Settling.{settles}
use Rattle.run_queue.specs.Puts.{IsSignedAt}
use Rattle.run_queue.specs.declared.fault.RunFault.{RunFault}
use Rattle.run_queue.specs.Causes.{IsCause}
use Rattle.run_queue.specs.Keeps.{IsState, IsUpToDate}
use Rattle.run_queue.specs.Seen.{RunView, known_in, no_meaning}
use Rattle.run_queue.proofs.Known.{own_signature, own_task, sound_ordered, up_to_date}
use Rattle.run_queue.proofs.OwnSignature.{view_of}
use Rattle.setscene_plan.proofs.Naming.{signed_at}

-- ---- one row more

one_row : (row : EquivRow) (name : Hash) → hash_eq row.name name ≡ true → row_at (row ∷ []) name ≡ Some row
one_row row name is = rw is refl

no_row : (row : EquivRow) (name : Hash) → hash_eq row.name name ≡ false → row_at (row ∷ []) name ≡ None
no_row row name is = rw is refl

-- the row of another name is as it was
row_beside : (rows : List EquivRow) (row : EquivRow) (name : Hash) → (row.name ≡ name → ⊥) → row_at (rows ++ row ∷ []) name ≡ row_at rows name
row_beside rows row name other =
    find-append (λ (r : EquivRow). hash_eq r.name name) rows (row ∷ [])
    ∙ ap (λ (o : Option EquivRow). option_or (row_at rows name) o) (elim (either_way (hash_eq row.name name)) [ inl same ↦ absurd (other (hash_same row.name name same)) | inr no_one ↦ no_row row name no_one ])
    ∙ or_none (row_at rows name)
  where
    or_none : (o : Option EquivRow) → option_or o None ≡ o
    or_none None = refl
    or_none (Some r) = refl

-- the row of a name that had none is the one that came
row_new : (rows : List EquivRow) (row : EquivRow) (name : Hash) → row_at rows name ≡ None → row.name ≡ name → row_at (rows ++ row ∷ []) name ≡ Some row
row_new rows row name none same =
    find-append (λ (r : EquivRow). hash_eq r.name name) rows (row ∷ [])
    ∙ ap (λ (o : Option EquivRow). option_or o (row_at (row ∷ []) name)) none
    ∙ one_row row name (hash_itself row.name name same)

-- ---- rows behind a publication

module _ (plan : Plan) (rows : List EquivRow) (t : ℕ) (known : Replan) (tree : Entries) (sound : IsSound plan) (current : IsCurrent no_meaning (view_of plan rows) known) (s : Signed) (signed : IsSignedAt rows plan.tasks t s) where
  ordered : AreOrdered plan.tasks
  ordered = sound_ordered plan sound

  own : slice_get plan.tasks t ≡ Some s.task
  own = own_task no_meaning (view_of plan rows) known ordered current t s signed

  sig : signature_by plan.tasks (unihashes_in known) s.task ≡ s.sig
  sig = own_signature no_meaning (view_of plan rows) known ordered current t s signed

  name : slice_get (names_in known) t ≡ Some (name_of s.sig)
  name = current.made.named t s.task own ∙ ap (λ (g : SigRecord). Some (name_of g)) sig

  settling_kept : AreSettling (view_of plan rows) rows t known
  settling_kept = record { kept = λ n has. has; others = λ n other. refl; own = current.clear t }

  settling_new : row_at rows (name_of s.sig) ≡ None → AreSettling (view_of plan rows) (rows ++ row_of (line_for rows s tree) ∷ []) t known
  settling_new none = record {
    kept = λ n has gone. has (sym (row_stays rows (row_of (line_for rows s tree) ∷ []) n has) ∙ gone);
    others = λ n other. row_beside rows (row_of (line_for rows s tree)) n (λ same. other (name ∙ ap (λ (h : Hash). Some h) same));
    own = λ task here row is.
        let one : s.task ≡ task = same_Some s.task task (sym own ∙ here) in
        let same : s.sig ≡ signature_by plan.tasks (unihashes_in known) task = sym sig ∙ ap (signature_by plan.tasks (unihashes_in known)) one in
        let found = ap (λ (g : SigRecord). row_at (rows ++ row_of (line_for rows s tree) ∷ []) (name_of g)) (sym same) in
        let row_is : row_of (line_for rows s tree) ≡ row = same_Some (row_of (line_for rows s tree)) row (sym (row_new rows (row_of (line_for rows s tree)) (name_of s.sig) none refl) ∙ sym found ∙ is) in
        ap (λ (r : EquivRow). r.sig) (sym row_is) ∙ ap signature_bytes same;
  }

  settling_with : AreSettling (view_of plan rows) (rows_with rows s tree) t known
  settling_with = by (row_at rows (name_of s.sig)) refl
    where
      by : (o : Option EquivRow) → row_at rows (name_of s.sig) ≡ o → AreSettling (view_of plan rows) (rows_with rows s tree) t known
      by None e = subst (λ (r : List EquivRow). AreSettling (view_of plan rows) r t known) (sym (ap (λ (o : Option EquivRow). if is_none o then rows ++ row_of (line_for rows s tree) ∷ [] else rows) e)) (settling_new e)
      by (Some row) e = subst (λ (r : List EquivRow). AreSettling (view_of plan rows) r t known) (sym (ap (λ (o : Option EquivRow). if is_none o then rows ++ row_of (line_for rows s tree) ∷ [] else rows) e)) settling_kept

-- What is known before a publication is right behind it but for the task's own name.
pub settled_put : (plan : Plan) (rows later : List EquivRow) (t : ℕ) (replan : Option Replan) (tree : Entries) → IsSound plan → t < length plan.tasks → IfSome replan (IsCurrent no_meaning (view_of plan rows)) → ((s : Signed) → IsSignedAt rows plan.tasks t s → later ≡ rows_with rows s tree)
    → IfSome replan (IsSettled no_meaning (view_of plan later) t)
settled_put plan rows later t None tree sound lt current put = tt
settled_put plan rows later t (Some known) tree sound lt current put =
    let x = signed_at rows plan.tasks t lt in
    settles no_meaning (view_of plan rows) later t known current
    (subst (λ (r : List EquivRow). AreSettling (view_of plan rows) r t known) (sym (put x.0 x.1)) (settling_with plan rows t known tree sound current x.0 x.1))

-- ---- what is known afterwards

-- what is known is by what was known before
pub made_by : (before : Replan) (old made : Option Replan) (P : Replan → Replan → Type 0) → old ≡ Some before → IfSome made (λ m. IfSome old (λ k. P k m)) → IfSome made (P before)
made_by before old made P is h = subst (λ (o : Option Replan). IfSome made (λ m. IfSome o (λ k. P k m))) is h

-- whatever its answers mean, it is up to date
pub current_anyway : (says : Says) (plan : Plan) (rows later : List EquivRow) (made : Option Replan) → later ≡ rows → IfSome made (IsCurrent says (view_of plan rows)) → IfSome made (IsCurrent no_meaning (view_of plan later))
current_anyway says plan rows later None same is = tt
current_anyway says plan rows later (Some m) same is =
    subst (λ (r : List EquivRow). IsCurrent no_meaning (view_of plan r) m) (sym same) (current_follows says no_meaning (view_of plan rows) m (λ t sig there said. tt) is)

-- What every state keeps, it keeps with what is known afterwards, and with the fault that may have been met.
pub state_after : {D W : Type 0} (count now : ℕ) (s : RunView D W) (store : View D) (begun : List (Option Avail)) (fault : Option RunFault) (made : Option Replan) → IsState count s → s.fault ≡ None → store.faultless ≡ s.store.faultless → length begun ≡ length s.begun → (fault ≡ None → now ≡ 0) → IfSome fault (IsCause now s.plan store.rows s.sink_failed)
    → IfSome made (IsCurrent no_meaning (view_of s.plan store.rows)) → IsState now (record s { store = store; begun = begun; fault = fault; known = option_map known_in made })
state_after count now s store begun fault made is none clean long unharmed cause current = record {
  sound = is.sound;
  long = long ∙ is.long;
  few = is.few;
  among = is.among;
  orderly = is.orderly;
  current = known made current;
  unharmed = unharmed;
  clean = λ n. clean ∙ is.clean none;
  heard = λ n. is.heard none;
  unbroken = λ n. is.unbroken none;
  cause = cause;
}
  where
    known : (m : Option Replan) → IfSome m (IsCurrent no_meaning (view_of s.plan store.rows)) → IfSome (option_map known_in m) (IsUpToDate s.plan store.rows)
    known None h = tt
    known (Some m) h = up_to_date no_meaning (view_of s.plan store.rows) m (sound_ordered s.plan is.sound) h
