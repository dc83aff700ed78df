-- A fault that is kept has its cause, and a task that breaks off by one had one kept.
use Rattle.std.proofs.Common.{◌≡◌, ◌∙◌, sym, ap, subst, refl, ℕ, arith, inl, inr, false, List, [], ◌∷◌, ◌++◌, Option, Some, None}
use Rattle.std.specs.Prelude.{IsSome, ◌||◌}
use Rattle.std.specs.List.{slice_get}
use Rattle.std.proofs.lemmas.Bool.{false≢true}
use Rattle.std.proofs.lemmas.List.Folds.{list_any-append}
use Rattle.tree_model.specs.Manifest.{manifest_lines}
use Rattle.tree_model.specs.declared.hash.Hash.{Hash}
use Rattle.tree_model.specs.declared.manifest.ManifestLine.{ManifestLine}
use Rattle.outside_traits.specs.Fault.{Counts}
use Rattle.meta_model.specs.CleanBuild.{Entries}
use Rattle.meta_model.specs.declared.event.Cut.{Cut}
use Rattle.meta_model.specs.declared.event.Cut.TheVariants as cut
use Rattle.meta_model.specs.declared.event.Event.{Event}
use Rattle.meta_model.specs.declared.event.Event.TheVariants as events
use Rattle.meta_model.specs.declared.event.Logged.{Logged}
use Rattle.meta_model.specs.declared.plan.Plan.{Plan}
use Rattle.meta_model.specs.declared.plan.PlanTask.{PlanTask}
use Rattle.tale_model.specs.declared.fate.Fate.{Fate}
use Rattle.run_core.specs.Fates.{CanMark}
use Rattle.tale_model.specs.Fates.{fate_at, is_running, task_of}
use Rattle.store_model.specs.declared.signature.EquivRow.{EquivRow}
use Rattle.store_model.specs.declared.signature.SigRecord.{SigRecord}
use Rattle.store_model.specs.Clashes.{AreToldApart}
use Rattle.store_model.specs.Rows.{row_at}
use Rattle.store_model.specs.Signatures.{Signed}
use Rattle.store_model.specs.Spelling.{name_of, signature_bytes}
use Rattle.setscene_plan.specs.View.{IsAskedOf, IsNamedFor}
use Rattle.build_store.specs.Faults.{IsClash, IsCollision, IsRefusal, IsUnsteady, is_disk_fault}
use Rattle.build_store.specs.declared.fault.StoreFault.{StoreFault}
use Rattle.build_store.specs.declared.fault.StoreFault.TheVariants as fault_of
use Rattle.task_worker.specs.declared.given.Given.TheVariants as givens
use Rattle.run_queue.specs.declared.fault.RunFault.{RunFault}
use Rattle.run_model.specs.Causes.{IsClashOf, IsUnsteadyOf, fault_broke, is_fault_break}
use Rattle.run_queue.specs.Causes.{IsStoreCause, IsStoreOfGiven}
use Rattle.run_queue.specs.Puts.{IsSignedAt}

-- ---- of the store

-- the name and the bytes of the signature of a task of the plan
pub signed_name : (plan : Plan) (rows : List EquivRow) (number : ℕ) (s : Signed) → IsSignedAt rows plan.tasks number s → IsNamedFor (record { plan = plan; rows = rows }) (name_of s.sig) (signature_bytes s.sig)
signed_name plan rows number s is = record { number = number; signed = s; is_signed = is; spelled = refl; named = refl }

-- the same of the signature for which an output is asked
pub asked_name : (plan : Plan) (rows : List EquivRow) (number : ℕ) (sig : SigRecord) → IsAskedOf (record { plan = plan; rows = rows }) number sig → IsNamedFor (record { plan = plan; rows = rows }) (name_of sig) (signature_bytes sig)
asked_name plan rows number sig asked = record { number = number; signed = asked.signed; is_signed = asked.is_signed; spelled = ap signature_bytes asked.is; named = ap name_of asked.is }

-- what a collision is where the name is that of the signature of a task of the plan
pub clash_of : (plan : Plan) (rows : List EquivRow) (at name : Hash) (bytes held given : List ℕ) → IsNamedFor (record { plan = plan; rows = rows }) at bytes → IsCollision rows at bytes name held given → IsClashOf plan rows name held given
clash_of plan rows at name bytes held given named clash = record {
  number = named.number;
  signed = named.signed;
  is_signed = named.is_signed;
  meet = inl (
    clash.row,
    ap (row_at rows) (sym named.named) ∙ clash.is_row,
    subst (λ (h : Hash). AreToldApart clash.row.sig (signature_bytes named.signed.sig) h name held given) named.named (subst (λ (b : List ℕ). AreToldApart clash.row.sig b at name held given) named.spelled clash.told),
  );
  differ = clash.told.differ;
  held_name = clash.told.held_name;
  given_name = clash.told.given_name;
}

-- what an output that differs is where the signature is a task's own
unsteady_of : (plan : Plan) (rows : List EquivRow) (number : ℕ) (s : Signed) (tree : Entries) (pn task : List ℕ) (held given : List ManifestLine) → IsSignedAt rows plan.tasks number s → IsUnsteady rows s tree (fault_of.Unsteady pn task held given) → IsUnsteadyOf plan rows pn task held given
unsteady_of plan rows number s tree pn task held given signed refused =
    let is : fault_of.Unsteady pn task held given ≡ fault_of.Unsteady s.task.id.pn s.task.id.task refused.row.manifest (manifest_lines tree) = refused.is in
    let pn_is : pn ≡ s.task.id.pn = cc in
    let task_is : task ≡ s.task.id.task = cc in
    let held_is : held ≡ refused.row.manifest = cc in
    let given_is : given ≡ manifest_lines tree = cc in
    record {
      number = number;
      signed = s;
      is_signed = signed;
      pn_is = pn_is;
      task_is = task_is;
      row = refused.row;
      is_row = refused.is_row;
      same = refused.same;
      held_is = held_is;
      tree = tree;
      given_is = given_is;
      differ = λ same. refused.differ (sym held_is ∙ same ∙ given_is);
    }

-- Why a fault of a publication is kept: before it the disk hadn't failed.
pub store_cause : (before count : ℕ) (plan : Plan) (rows : List EquivRow) (keys : List (List ℕ)) (number : ℕ) (s : Signed) (tree : Entries) (f : StoreFault) → IsSignedAt rows plan.tasks number s → before ≡ 0 → Counts before count (is_disk_fault f) → IsRefusal rows keys s tree f → IsStoreCause count plan rows f
store_cause before count plan rows keys number s tree fault_of.Disk signed none counts refused = let rose = counts.rose in omega (arith, rose, none)
store_cause before count plan rows keys number s tree (fault_of.Collision name held given) signed none counts refused = elim refused [
  | inl clash ↦ clash_of plan rows (name_of s.sig) name (signature_bytes s.sig) held given (signed_name plan rows number s signed) clash
  | inr key ↦ record { number = number; signed = s; is_signed = signed; meet = inr key.given_is; differ = key.differ; held_name = key.held_name; given_name = key.given_name }
]
store_cause before count plan rows keys number s tree (fault_of.Unsteady pn task held given) signed none counts refused = unsteady_of plan rows number s tree pn task held given signed refused
store_cause before count plan rows keys number s tree fault_of.Memory signed none counts refused = tt

-- Why a fault of a restoring is kept.
pub clash_cause : (before count : ℕ) (plan : Plan) (rows : List EquivRow) (number : ℕ) (s : Signed) (f : StoreFault) → IsSignedAt rows plan.tasks number s → before ≡ 0 → Counts before count (is_disk_fault f) → IsClash rows (name_of s.sig) (signature_bytes s.sig) f → IsStoreCause count plan rows f
clash_cause before count plan rows number s fault_of.Disk signed none counts refused = let rose = counts.rose in omega (arith, rose, none)
clash_cause before count plan rows number s (fault_of.Collision name held given) signed none counts refused = clash_of plan rows (name_of s.sig) name (signature_bytes s.sig) held given (signed_name plan rows number s signed) refused
clash_cause before count plan rows number s (fault_of.Unsteady pn task held given) signed none counts refused = absurd refused
clash_cause before count plan rows number s fault_of.Memory signed none counts refused = tt

-- What a fault of a publication carries: its task's PN and name, and the manifest of what was given.
pub refusal_given : (tasks : List PlanTask) (rows : List EquivRow) (keys : List (List ℕ)) (number : ℕ) (s : Signed) (tree : Entries) (manifest : List ManifestLine) (f : StoreFault) → slice_get tasks number ≡ Some s.task → manifest ≡ manifest_lines tree → IsRefusal rows keys s tree f → IsStoreOfGiven tasks number (givens.Tree tree manifest) f
refusal_given tasks rows keys number s tree manifest fault_of.Disk at listed refused = tt
refusal_given tasks rows keys number s tree manifest (fault_of.Collision name held given) at listed refused = tt
refusal_given tasks rows keys number s tree manifest (fault_of.Unsteady pn task held given) at listed refused =
    let is : fault_of.Unsteady pn task held given ≡ fault_of.Unsteady s.task.id.pn s.task.id.task refused.row.manifest (manifest_lines tree) = refused.is in
    let pn_is : pn ≡ s.task.id.pn = cc in
    let task_is : task ≡ s.task.id.task = cc in
    let same : manifest ≡ given = cc in
    (record { task = s.task; is_task = at; pn_is = pn_is; name_is = task_is }, (tree, ap (givens.Tree tree) same))
refusal_given tasks rows keys number s tree manifest fault_of.Memory at listed refused = tt

-- ---- tasks that break off

-- a task breaks off by a fault only where one is kept
pub cut_unbroken : (t : ℕ) (c : Cut) (f : Option RunFault) → (c ≡ cut.Fault → IsSome f) → f ≡ None → is_fault_break (events.Broke t c) ≡ false
cut_unbroken t cut.Fault f kept none = absurd (false≢true (subst (λ x. IsSome x) none (kept refl)))
cut_unbroken t cut.Memory f kept none = refl
cut_unbroken t cut.Bench f kept none = refl

-- a task that doesn't run doesn't break off
pub waiting_unbroken : (fates : List Fate) (e : Event) → CanMark fates e → is_running (fate_at fates (task_of e)) ≡ false → is_fault_break e ≡ false
waiting_unbroken fates (events.Found t) can waits = refl
waiting_unbroken fates (events.Restored t) can waits = refl
waiting_unbroken fates (events.Started t seat) can waits = refl
waiting_unbroken fates (events.Ended t) can waits = refl
waiting_unbroken fates (events.Failed t why) can waits = refl
waiting_unbroken fates (events.Broke t c) can waits = absurd (false≢true (sym waits ∙ can.1))

-- none did with one more entry that says no such thing
pub unbroken_on : (tale : List Logged) (e : Logged) → fault_broke tale ≡ false → is_fault_break e.event ≡ false → fault_broke (tale ++ e ∷ []) ≡ false
unbroken_on tale e before here =
    list_any-append (λ l. is_fault_break l.event) tale (e ∷ [])
    ∙ ap (λ b. b || (is_fault_break e.event || false)) before
    ∙ ap (λ b. b || false) here
