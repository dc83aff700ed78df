-- What stays of names, unihashes and signatures when one task is named anew.
use Rattle.std.proofs.Common.{◌≡◌, ◌≢◌, ◌∙◌, sym, ap, subst, ℕ, ◌+◌, ◌<◌, ◌≤◌, arith, List, length, get_or, set, length-set, get_or-set_same, All, IfSome, Some, slice_get, inl, inr}
use Rattle.std.proofs.lemmas.Bool.{cases_lt}
use Rattle.std.proofs.lemmas.Option.{same_Some, slice_get-get_or, slice_get_within}
use Rattle.tree_model.specs.declared.hash.Hash.{Hash}
use Rattle.meta_model.specs.declared.plan.Plan.{Plan}
use Rattle.meta_model.specs.declared.plan.PlanTask.{PlanTask}
use Rattle.run_core.specs.Need.{AreOrdered}
use Rattle.tale_model.specs.Need.{deps_in, deps_of}
use Rattle.store_model.specs.declared.signature.EquivRow.{EquivRow}
use Rattle.store_model.specs.declared.signature.SigRecord.{SigRecord}
use Rattle.store_model.specs.Rows.{uni, IsClear}
use Rattle.store_model.specs.Signatures.{signatures}
use Rattle.store_model.specs.Spelling.{name_of, signature_bytes}
use Rattle.sig_gen.specs.Signing.{signature_by}
use Rattle.setscene_plan.specs.View.{IsAskedOf, IsNamedFor, View}
use Rattle.setscene_plan.specs.Names.{AreNamed, IsClearAt, IsHashed, IsNamed, unihashes_over}
use Rattle.setscene_plan.proofs.Learning.{else_where}
use Rattle.setscene_plan.proofs.Naming.{signature_local, signed_at, signed_here, signed_over, signed_task}

-- a task needs none but those before it
pub needs_before : (tasks : List PlanTask) (place t : ℕ) → AreOrdered tasks → t ≤ place → All (λ d. d ≢ place) (deps_of tasks t)
needs_before tasks place t ordered le k d lt same = omega (arith, ordered t k d lt, same, le)

module _ (tasks : List PlanTask) (names us names' us' : List Hash) (place : ℕ) (same_names : (t : ℕ) → t ≢ place → slice_get names' t ≡ slice_get names t) (same_us : (t : ℕ) → t ≢ place → slice_get us' t ≡ slice_get us t) where
  pub signature_kept : (t : ℕ) (task : PlanTask) → slice_get tasks t ≡ Some task → All (λ d. d ≢ place) (deps_of tasks t) → signature_by tasks us' task ≡ signature_by tasks us task
  signature_kept t task at free = signature_local tasks us' us task (subst (λ ds. All (λ d. slice_get us' d ≡ slice_get us d) ds) (ap deps_in at) (λ k d lt. same_us (get_or (deps_of tasks t) k d) (free k d lt)))

  pub named_kept : (t : ℕ) → t ≢ place → All (λ d. d ≢ place) (deps_of tasks t) → IsNamed tasks names us t → IsNamed tasks names' us' t
  named_kept t ne free is task at = same_names t ne ∙ is task at ∙ ap (λ g. Some (name_of g)) (sym (signature_kept t task at free))

  pub hashed_kept : (rows : List EquivRow) (t : ℕ) → t ≢ place → IsHashed rows names us t → IsHashed rows names' us' t
  hashed_kept rows t ne is name at = same_us t ne ∙ is name (sym (same_names t ne) ∙ at)

  pub clear_kept : (rows : List EquivRow) (t : ℕ) → All (λ d. d ≢ place) (deps_of tasks t) → IsClearAt rows tasks us t → IsClearAt rows tasks us' t
  clear_kept rows t free is task at = subst (λ (g : SigRecord). IsClear rows (name_of g) (signature_bytes g)) (sym (signature_kept t task at free)) (is task at)

-- one task more has its name and its unihash
pub named_step : (rows : List EquivRow) (tasks : List PlanTask) (names us : List Hash) (place : ℕ) (name u : Hash) → AreOrdered tasks → place < length tasks → length names ≡ length tasks → length us ≡ length tasks →
    ((task : PlanTask) → slice_get tasks place ≡ Some task → name ≡ name_of (signature_by tasks us task)) → u ≡ uni rows name →
    ((t : ℕ) → t < place → IsNamed tasks names us t × IsHashed rows names us t) → (t : ℕ) → t < place + 1 → IsNamed tasks (set names place name) (set us place u) t × IsHashed rows (set names place name) (set us place u) t
named_step rows tasks names us place name u ordered lt long wide is known before t le = elim (cases_lt t place) [
  | inl front ↦
      let ne : t ≢ place = λ e. omega (arith, e, front) in (
        named_kept tasks names us (set names place name) (set us place u) place (else_where names name place) (else_where us u place) t ne (needs_before tasks place t ordered (omega (arith, front))) (before t front).0,
        hashed_kept tasks names us (set names place name) (set us place u) place (else_where names name place) (else_where us u place) rows t ne (before t front).1,
      )
  | inr last ↦
      let same : place ≡ t = omega (arith, le, last) in
      subst (λ x. IsNamed tasks (set names place name) (set us place u) x × IsHashed rows (set names place name) (set us place u) x) same (here, hashed)
]
  where
    put : {A : Type 0} (xs : List A) (v : A) → place < length xs → slice_get (set xs place v) place ≡ Some v
    put xs v inside = slice_get-get_or (set xs place v) place v (omega (arith, inside, length-set xs place v)) ∙ ap Some (get_or-set_same xs place v v inside)

    here : IsNamed tasks (set names place name) (set us place u) place
    here task at =
        put names name (omega (arith, lt, long)) ∙ ap Some (is task at)
        ∙ ap (λ g. Some (name_of g)) (sym (signature_kept tasks names us (set names place name) (set us place u) place (else_where names name place) (else_where us u place) place task at (needs_before tasks place place ordered (omega arith))))

    hashed : IsHashed rows (set names place name) (set us place u) place
    hashed other at =
        let same : name ≡ other = same_Some name other (sym (put names name (omega (arith, lt, long))) ∙ at) in
        put us u (omega (arith, lt, wide)) ∙ ap Some (known ∙ ap (uni rows) same)

-- all tasks have theirs
pub named_all : (rows : List EquivRow) (tasks : List PlanTask) (names us : List Hash) (place : ℕ) → length tasks ≤ place → length names ≡ length tasks → length us ≡ length tasks →
    ((t : ℕ) → t < place → IsNamed tasks names us t × IsHashed rows names us t) → AreNamed rows tasks names us
named_all rows tasks names us place past long wide before = record {
  long = long;
  wide = wide;
  named = λ t task at. (before t (omega (arith, slice_get_within tasks t task at, past))).0 task at;
  hashed = λ t name at. (before t (omega (arith, slice_get_within names t name at, past, long))).1 name at;
}

-- ---- what a probe is asked

-- The name and the text that were worked out are those of the task's own signature, where the tasks before it have theirs.
pub named_for : (view : View) (plan : Plan) (names us unihashes : List Hash) (place : ℕ) (name : Hash) (text : List ℕ) → view.plan ≡ plan → AreOrdered plan.tasks → place < length plan.tasks → unihashes ≡ us
    → ((t : ℕ) → t < place → IsNamed plan.tasks names us t × IsHashed view.rows names us t)
    → IfSome (slice_get plan.tasks place) (λ own. name ≡ name_of (signature_by plan.tasks unihashes own))
    → IfSome (slice_get plan.tasks place) (λ own. text ≡ signature_bytes (signature_by plan.tasks unihashes own)) → IsNamedFor view name text
named_for view plan names us unihashes place name text is ordered lt kept before named spelled =
    let tasks = plan.tasks in
    let found = signed_at view.rows tasks place lt in
    let at : slice_get tasks place ≡ Some found.0.task = signed_task view.rows tasks place found.0 found.1 in
    let own : signature_by tasks unihashes found.0.task ≡ found.0.sig = ap (λ (vs : List Hash). signature_by tasks vs found.0.task) kept ∙ signed_here view.rows tasks us ordered names place before found.0 found.1 in
    record {
      number = place;
      signed = found.0;
      is_signed = ap (λ (p : Plan). slice_get (signatures view.rows p.tasks) place) is ∙ found.1;
      spelled = subst (λ o. IfSome o (λ x. text ≡ signature_bytes (signature_by tasks unihashes x))) at spelled ∙ ap signature_bytes own;
      named = subst (λ o. IfSome o (λ x. name ≡ name_of (signature_by tasks unihashes x))) at named ∙ ap name_of own;
    }

-- A signature by the unihashes over the rows is the task's own.
pub asked_of : (view : View) (plan : Plan) (us : List Hash) (place : ℕ) (sig : SigRecord) → view.plan ≡ plan → AreOrdered plan.tasks → place < length plan.tasks → us ≡ unihashes_over view.rows plan.tasks
    → IfSome (slice_get plan.tasks place) (λ own. sig ≡ signature_by plan.tasks us own) → IsAskedOf view place sig
asked_of view plan us place sig is ordered lt over by =
    let tasks = plan.tasks in
    let found = signed_at view.rows tasks place lt in
    let at : slice_get tasks place ≡ Some found.0.task = signed_task view.rows tasks place found.0 found.1 in
    record {
      signed = found.0;
      is_signed = ap (λ (p : Plan). slice_get (signatures view.rows p.tasks) place) is ∙ found.1;
      is = subst (λ o. IfSome o (λ x. sig ≡ signature_by tasks us x)) at by ∙ signed_over view.rows tasks us ordered over place found.0 found.1;
    }
