-- The signature of a task by what is known of a plan's tasks is its own, and has one spelling.
use Rattle.std.proofs.Common.{◌≡◌, ◌∙◌, sym, ap, subst, refl, ℕ, zero, suc, ◌<◌, ◌≤◌, arith, Bool, true, false, List, [], ◌∷◌, ◌++◌, length, get_or, map, Option, Some, None, inl, inr, ◌⊎◌}
use Rattle.std.specs.Prelude.{◌||◌, slice_index_or}
use Rattle.std.specs.List.{AllByRecursion, list_any, slice_get}
use Rattle.std.proofs.lemmas.Bool.{false≢true}
use Rattle.std.proofs.lemmas.Bool.Decides.{Decides-ltb}
use Rattle.std.proofs.lemmas.List.{map-append}
use Rattle.std.specs.Option.{is_some, option_map}
use Rattle.std.proofs.lemmas.Option.{same_Some, slice_get-get_or}
use Rattle.tree_model.specs.declared.entry.Entry.{Entry}
use Rattle.meta_model.specs.declared.plan.Plan.{Plan}
use Rattle.meta_model.specs.declared.plan.PlanTask.{PlanTask}
use Rattle.meta_model.specs.CleanBuild.{Entries, exceeds, is_beyond, is_long, output_limit}
use Rattle.tree_model.specs.Size.{size_of}
use Rattle.plan_model.specs.Sound.{IsSound}
use Rattle.plan_model.proofs.Meets.{sound_meets}
use Rattle.store_model.specs.declared.signature.EquivRow.{EquivRow}
use Rattle.store_model.specs.declared.signature.SigRecord.{SigRecord}
use Rattle.store_model.specs.Premises.{AreSoundFrom}
use Rattle.store_model.specs.Signatures.{Signed, signature, signatures, signed_from}
use Rattle.store_model.specs.Spelled.{IsSpelled}
use Rattle.store_model.specs.Spelling.{name_of, signature_bytes}
use Rattle.store_model.proofs.Ordered.{each_append}
use Rattle.store_model.proofs.Soundness.{sound_plan_is_sound}
use Rattle.store_model.proofs.Spelled.{signature_is_spelled}
use Rattle.sig_gen.specs.Signing.{signature_by}
use Rattle.setscene_plan.specs.Names.{AreNamed}
use Rattle.setscene_plan.proofs.Naming.{signed_at, signed_is}
use Rattle.std.specs.Prelude.{◌≢◌, IfErr, IfOk, IfSome, IsSome, OnErr, OnOk, Result, Ok, Err, is_none, if◌then◌else◌}
use Rattle.std.specs.Bool.{OnFalse, OnTrue}
use Rattle.tree_model.specs.declared.hash.Hash.{Hash}
use Rattle.store_model.specs.Origins.{row_of}
use Rattle.store_model.specs.Rows.{row_at}
use Rattle.std.specs.Result.{IsErrAnd}
use Rattle.outside_traits.specs.Fault.{Counts}
use Rattle.outside_traits.specs.Story.{Story}
use Rattle.setscene_plan.specs.declared.replan.Replan.{Replan}
use Rattle.run_queue.specs.Seen.{no_meaning}
use Rattle.setscene_plan.specs.Replans.{IsCurrent, names_in, unihashes_in}
use Rattle.setscene_plan.specs.View.{View}
use Rattle.build_store.specs.Faults.{IsClash, store_failed}
use Rattle.build_store.specs.declared.fault.StoreFault.{StoreFault}
use Rattle.build_store.specs.Openings.{OpensRestoring, StepsTo}
use Rattle.build_store.specs.Publication.{AreShort, line_for, rows_with}
use Rattle.build_store.specs.declared.step.Step.{Step}
use Rattle.build_store.specs.declared.step.Step.TheVariants as step
use Rattle.build_store.specs.View.{IsSignatureOf, SameBooks, unshared}
use Rattle.build_store.specs.View.{View as Store}
use Rattle.run_queue.specs.Causes.{IsStoreCause}
use Rattle.run_queue.specs.Puts.{IsSignedAt}
use Rattle.run_queue.proofs.Causing.{clash_cause}
use Rattle.run_queue.proofs.Enduring.{signed_task}
use Rattle.run_queue.proofs.Known.{sound_ordered}

-- ---- a sound plan's signatures

-- a task's signature has one spelling, and the task's PN and name
pub record IsOwn (s : Signed) : Type 0 where
  pub spelled : IsSpelled s.sig
  pub pn : s.sig.pn ≡ s.task.id.pn
  pub task : s.sig.task ≡ s.task.id.task

own_from : (rows : List EquivRow) (before : List Signed) (tasks : List PlanTask) → AllByRecursion IsOwn before → AreSoundFrom (map (λ (s : Signed). s.task) before) tasks → AllByRecursion IsOwn (signed_from rows before tasks)
own_from rows before [] all sound = all
own_from rows before (task ∷ tasks) all sound =
    let s : Signed = record { task = task; sig = signature rows before task } in
    own_from rows (before ++ s ∷ []) tasks
    (each_append IsOwn before (s ∷ []) all (record { spelled = signature_is_spelled rows before task sound.0; pn = refl; task = refl }, tt))
    (subst (λ (l : List PlanTask). AreSoundFrom l tasks) (sym (map-append (λ (x : Signed). x.task) before (s ∷ []))) sound.1)

at_of : {A : Type 0} (P : A → Type 0) (xs : List A) (t : ℕ) (x : A) → AllByRecursion P xs → slice_get xs t ≡ Some x → P x
at_of P [] t x all is = absurd (let n : None ≡ Some x = is in cc)
at_of P (y ∷ xs) zero x all is = let same : y ≡ x = (let e : Some y ≡ Some x = is in cc) in subst P same all.0
at_of P (y ∷ xs) (suc t) x all is = at_of P xs t x all.1 is

pub is_own : (plan : Plan) (rows : List EquivRow) (t : ℕ) (s : Signed) → IsSound plan → slice_get (signatures rows plan.tasks) t ≡ Some s → IsOwn s
is_own plan rows t s sound is = at_of IsOwn (signatures rows plan.tasks) t s (own_from rows [] plan.tasks tt (sound_plan_is_sound plan (sound_meets plan sound))) is

-- ---- outputs within the limits

left_false : (a b : Bool) → (a || b) ≡ false → b ≡ false
left_false true b e = absurd (false≢true (sym e))
left_false false b e = e

first_false : (a b : Bool) → (a || b) ≡ false → a ≡ false
first_false true b e = absurd (false≢true (sym e))
first_false false b e = refl

at_most : (n : ℕ) → Rattle.std.specs.Prelude.nat_lt 3072 n ≡ false → n ≤ 3072
at_most n e = elim (le_or_gt n 3072) [ inl le ↦ le | inr more ↦ absurd (false≢true (sym e ∙ (Decides-ltb 3072 n).1 more)) ]
  where
    le_or_gt : (a b : ℕ) → (a ≤ b) ⊎ (b < a)
    le_or_gt zero b = inl (omega arith)
    le_or_gt (suc a) zero = inr (omega arith)
    le_or_gt (suc a) (suc b) = elim (le_or_gt a b) [ inl le ↦ inl (omega (arith, le)) | inr gt ↦ inr (omega (arith, gt)) ]

none_long : (tree : Entries) → list_any is_long tree ≡ false → AreShort tree
none_long [] e = λ k d lt. absurd (omega arith)
none_long (x ∷ tree) e = λ k d lt. each k d lt (none_long tree (left_false (is_long x) (list_any is_long tree) e))
  where
    here : length x.0 ≤ 3072
    here = at_most (length x.0) (first_false (is_long x) (list_any is_long tree) e)

    each : (k : ℕ) (d : List ℕ × Entry) → k < length (x ∷ tree) → AreShort tree → length (slice_index_or (x ∷ tree) k d).0 ≤ 3072
    each zero d lt more = here
    each (suc k) d lt more = more k d (omega (arith, lt))

-- an output within the limits has short paths
pub within_short : (tree : Entries) → is_beyond tree ≡ false → AreShort tree
unfolding is_beyond
within_short tree e = none_long tree (left_false (exceeds (size_of tree) output_limit) (list_any is_long tree) e)

-- ---- what is known of the plan's tasks

abbrev pub view_of : Plan → List EquivRow → View
view_of plan rows = record { plan = plan; rows = rows }

abbrev pub IsBy : Plan → ℕ → SigRecord → Option Replan → Type 0
IsBy plan t sig replan = IfSome replan (λ known. (own : PlanTask) → slice_get plan.tasks t ≡ Some own → sig ≡ signature_by plan.tasks (unihashes_in known) own)

-- the signature by what is known is the task's own
pub known_signature : (plan : Plan) (rows : List EquivRow) (replan : Option Replan) (t : ℕ) (task : PlanTask) (sig : SigRecord) (s : Signed) → IsSound plan → slice_get plan.tasks t ≡ Some task → IfSome replan (IsCurrent no_meaning (view_of plan rows)) → IsSome replan → IsBy plan t sig replan → slice_get (signatures rows plan.tasks) t ≡ Some s → s ≡ record { task = task; sig = sig }
known_signature plan rows None t task sig s sound at current known by is = absurd (false≢true known)
known_signature plan rows (Some r) t task sig s sound at current known by is =
    let are : AreNamed rows plan.tasks (names_in r) (unihashes_in r) = record { long = current.made.long; wide = current.made.wide; named = current.made.named; hashed = current.hashed } in
    let same = signed_task rows plan.tasks t s task is at in
    let own = signed_is rows plan.tasks (names_in r) (unihashes_in r) (sound_ordered plan sound) are t s is in
    let sigs : s.sig ≡ sig = sym own ∙ ap (signature_by plan.tasks (unihashes_in r)) same ∙ sym (by task at) in
    λ i. record { task = same i; sig = sigs i }

-- the task that stands at a place of a list
pub indexed : (tasks items : List PlanTask) (t : ℕ) (x : PlanTask) → items ≡ tasks → t < length tasks → x ≡ get_or items t x → slice_get tasks t ≡ Some x
indexed tasks items t x same lt is = slice_get-get_or tasks t x lt ∙ ap (λ (y : PlanTask). Some y) (ap (λ (l : List PlanTask). get_or l t x) (sym same) ∙ sym is)

-- So it can be published.
pub known_is : (plan : Plan) (rows : List EquivRow) (replan : Option Replan) (t : ℕ) (task : PlanTask) (sig : SigRecord) → IsSound plan → t < length plan.tasks → slice_get plan.tasks t ≡ Some task → IfSome replan (IsCurrent no_meaning (view_of plan rows)) → IsSome replan → IsBy plan t sig replan → IsSpelled sig × IsSignatureOf task sig
known_is plan rows replan t task sig sound lt at current known by =
    let x = signed_at rows plan.tasks t lt in
    let same = known_signature plan rows replan t task sig x.0 sound at current known by x.1 in
    let own = is_own plan rows t x.0 sound x.1 in (
      subst (λ (s : Signed). IsSpelled s.sig) same own.spelled,
      record { pn = ap (λ (s : Signed). s.sig.pn) (sym same) ∙ own.pn ∙ ap (λ (s : Signed). s.task.id.pn) same; task = ap (λ (s : Signed). s.sig.task) (sym same) ∙ own.task ∙ ap (λ (s : Signed). s.task.id.task) same },
    )

-- a fault that is handed on keeps its cause
pub handed_on : {X : Type 0} (r : Result X StoreFault) (f : StoreFault) (P : StoreFault → Type 0) → IsErrAnd r (λ e. e ≡ f) → P f → IfErr r P
handed_on (Ok x) f P is here = tt
handed_on (Err e) f P is here = subst P (sym is) here

-- ---- a restoring

-- Why a fault of a restoring is kept.
pub restore_cause : (before count : ℕ) (plan : Plan) (rows later : List EquivRow) (number : ℕ) (s : Signed) (r : Result Bool StoreFault) → IsSignedAt rows plan.tasks number s → later ≡ rows → before ≡ 0 → Counts before count (store_failed r) → IfErr r (IsClash rows (name_of s.sig) (signature_bytes s.sig)) → IfErr r (IsStoreCause count plan later)
restore_cause before count plan rows later number s (Ok found) signed same none counts refused = tt
restore_cause before count plan rows later number s (Err f) signed same none counts refused = subst (λ (l : List EquivRow). IsStoreCause count plan l f) (sym same) (clash_cause before count plan rows number s f signed none counts refused)

-- What is answered of a task with its signature is answered of the task of its number.
pub true_own : {E : Type 0} (r : Result Bool E) (P : Signed → Type 0) (rows : List EquivRow) (tasks : List PlanTask) (t : ℕ) (x : Signed) → ((s : Signed) → IsSignedAt rows tasks t s → s ≡ x) → IfOk r (λ found. OnTrue found (P x)) → IfOk r (λ found. OnTrue found ((s : Signed) → IsSignedAt rows tasks t s → P s))
true_own (Ok true) P rows tasks t x same is = λ s here. subst P (sym (same s here)) is
true_own (Ok false) P rows tasks t x same is = tt
true_own (Err e) P rows tasks t x same is = tt

pub false_own : {E : Type 0} (r : Result Bool E) (P : Signed → Type 0) (rows : List EquivRow) (tasks : List PlanTask) (t : ℕ) (x : Signed) → ((s : Signed) → IsSignedAt rows tasks t s → s ≡ x) → IfOk r (λ found. OnFalse found (P x)) → IfOk r (λ found. OnFalse found ((s : Signed) → IsSignedAt rows tasks t s → P s))
false_own (Ok true) P rows tasks t x same is = tt
false_own (Ok false) P rows tasks t x same is = λ s here. subst P (sym (same s here)) is
false_own (Err e) P rows tasks t x same is = tt

-- its record is stored, by its name in what is known
pub stored_name : (plan : Plan) (rows : List EquivRow) (replan : Option Replan) (t : ℕ) (task : PlanTask) (sig : SigRecord) → slice_get plan.tasks t ≡ Some task → IfSome replan (IsCurrent no_meaning (view_of plan rows)) → IsSome replan → IsBy plan t sig replan
    → IfSome replan (λ known. (name : Hash) → slice_get (names_in known) t ≡ Some name → row_at rows name ≢ None) → row_at rows (name_of sig) ≢ None
stored_name plan rows None t task sig at current known by has = absurd (false≢true known)
stored_name plan rows (Some r) t task sig at current known by has = has (name_of sig) (current.made.named t task at ∙ ap (λ (g : SigRecord). Some (name_of g)) (sym (by task at)))

-- a name whose row has a unihash has a row
pub row_there : (rows : List EquivRow) (names : List Hash) (t : ℕ) (d : Hash) (u : Option Hash) → t < length names → u ≡ option_map (λ (row : EquivRow). row.unihash) (row_at rows (get_or names t d)) → is_some u ≡ true → (name : Hash) → slice_get names t ≡ Some name → row_at rows name ≢ None
row_there rows names t d u lt answered some name at none =
    let same : get_or names t d ≡ name = same_Some (get_or names t d) name (sym (slice_get-get_or names t d lt) ∙ at) in
    false≢true (sym (ap is_some (answered ∙ ap (option_map (λ (row : EquivRow). row.unihash)) (ap (row_at rows) same ∙ none))) ∙ some)

module _ {D : Type 0} (old new : Store D) (s : Signed) where
  -- a restoring whose record is stored adds no row
  rows_by_step : (step : Step) → StepsTo old new (unshared s) step → row_at old.rows (name_of s.sig) ≢ None → new.rows ≡ old.rows
  rows_by_step step.NotOpen h has = ap (λ (v : Store D). v.rows) h.0
  rows_by_step step.More h has = h.books.rows
  rows_by_step step.Wait h has = h.books.rows
  rows_by_step (step.Done unihash) h has = h.rows ∙ none_more (row_at old.rows (name_of s.sig)) refl
    where
      none_more : (x : Option EquivRow) → row_at old.rows (name_of s.sig) ≡ x → rows_with old.rows (unshared s) h.tree ≡ old.rows
      none_more None e = absurd (has e)
      none_more (Some row) e = ap (λ (y : Option EquivRow). if is_none y then old.rows ++ row_of (line_for old.rows (unshared s) h.tree) ∷ [] else old.rows) e

  pub rows_by_result : (r : Result Step StoreFault) → IfOk r (StepsTo old new (unshared s)) → OnErr r ((new.rows ≡ old.rows) × (new.kept ≡ old.kept)) → row_at old.rows (name_of s.sig) ≢ None → new.rows ≡ old.rows
  rows_by_result (Ok step) steps refused has = rows_by_step step steps has
  rows_by_result (Err f) steps refused has = refused.0

  faultless_by_step : (step : Step) → StepsTo old new (unshared s) step → new.faultless ≡ old.faultless
  faultless_by_step step.NotOpen h = ap (λ (v : Store D). v.faultless) h.0
  faultless_by_step step.More h = h.books.faultless
  faultless_by_step step.Wait h = h.books.faultless
  faultless_by_step (step.Done unihash) h = h.faultless

  pub steps_faultless : (r : Result Step StoreFault) → IfOk r (StepsTo old new (unshared s)) → OnOk r (new.faultless ≡ old.faultless)
  steps_faultless (Ok step) steps = faultless_by_step step steps
  steps_faultless (Err f) steps = tt

pub opens_faultless : {D : Type 0} (tells : Type 0) (story : D → Story) (old new : Store D) (s : Signed) (r : Result Bool StoreFault) → IfOk r (λ found. OnTrue found (OpensRestoring tells story old new s)) → IfOk r (λ found. OnFalse found (SameBooks old new)) → OnOk r (new.faultless ≡ old.faultless)
opens_faultless tells story old new s (Ok true) opens same = opens.opens.faultless
opens_faultless tells story old new s (Ok false) opens same = same.faultless
opens_faultless tells story old new s (Err f) opens same = tt
