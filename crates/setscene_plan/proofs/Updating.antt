-- What is kept of a plan's tasks, brought up to date.
use Rattle.std.proofs.Common.{◌≡◌, ◌≢◌, ◌∙◌, sym, ap, subst, refl, ℕ, ◌<◌, arith, true, List, [], length, get_or, All, Contains, Option, Some, None, slice_get, ◌⊎◌, inl, inr}
use Rattle.std.proofs.lemmas.Bool.{cases_lt}
use Rattle.std.proofs.lemmas.Option.{same_Some, slice_get-get_or}
use Rattle.tree_model.specs.declared.hash.Hash.{Hash}
use Rattle.meta_model.specs.declared.event.Avail.{Avail}
use Rattle.meta_model.specs.declared.plan.Plan.{Plan}
use Rattle.meta_model.specs.declared.plan.PlanTask.{PlanTask}
use Rattle.meta_model.proofs.Bools.{either_way}
use Rattle.run_core.specs.Above.{IsAbove}
use Rattle.run_core.specs.Need.{AreOrdered}
use Rattle.tale_model.specs.Need.{IsIn, IsNeed, deps_in}
use Rattle.store_model.specs.declared.signature.EquivRow.{EquivRow}
use Rattle.store_model.specs.declared.signature.SigRecord.{SigRecord}
use Rattle.store_model.specs.Rows.{hash_eq, row_at}
use Rattle.store_model.specs.Spelling.{name_of}
use Rattle.store_model.proofs.Listing.{hash_itself, hash_same}
use Rattle.sig_gen.specs.Signing.{signature_by}
use Rattle.setscene_plan.specs.declared.replan.Replan.{Replan}
use Rattle.setscene_plan.specs.declared.work.Names.{Names}
use Rattle.setscene_plan.specs.View.{IsKnown, Says, View}
use Rattle.setscene_plan.specs.Names.{IsClearAt, IsHashed, IsNamed, names_over, unihashes_over}
use Rattle.setscene_plan.specs.Asked.{AreNeeds}
use Rattle.setscene_plan.specs.Reworks.{HaveOneName, IsFound, IsRightAt, IsUntouched, IsWorkable, IsWorked}
use Rattle.setscene_plan.specs.Replans.{AsksNeeds, IsAskable, IsCurrent, IsSettled, ReworksNames, avail_in, names_in, need_in, unihashes_in}
use Rattle.setscene_plan.proofs.Naming.{names_are_over, signature_local, unihashes_over_rows}
use Rattle.setscene_plan.proofs.Working.{alone, right_past}

-- ---- whether two tasks have one name

one_hash : (a b : Hash) → (a ≡ b) ⊎ (a ≡ b → ⊥)
one_hash a b = elim (either_way (hash_eq a b)) [
  | inl t ↦ inl (hash_same a b t)
  | inr f ↦ inr (λ e. let t = hash_itself a b e in cc)
]

one_option : (a b : Option Hash) → (a ≡ b) ⊎ (a ≡ b → ⊥)
one_option None None = inl refl
one_option None (Some y) = inr (λ e. cc)
one_option (Some x) None = inr (λ e. cc)
one_option (Some x) (Some y) = elim (one_hash x y) [ inl e ↦ inl (ap Some e) | inr ne ↦ inr (λ e. ne (same_Some x y e)) ]

one_name : (names : List Hash) (t u : ℕ) → HaveOneName names t u ⊎ (HaveOneName names t u → ⊥)
one_name names t u = one_option (slice_get names t) (slice_get names u)

-- ---- from scratch

pub names_current : (says : Says) (view : View) (replan : Replan) → AreOrdered view.plan.tasks → IsCurrent says view replan → names_in replan ≡ names_over view.rows view.plan.tasks
names_current says view replan ordered is = names_are_over view.rows view.plan.tasks (names_in replan) (unihashes_in replan) ordered (record { long = is.made.long; wide = is.made.wide; named = is.made.named; hashed = is.hashed })

-- ---- a task was settled

-- what isn't to be worked out anew is right
pub settled_workable : (says : Says) (view : View) (task : ℕ) (replan : Replan) (dirty : List ℕ) → IsSettled says view task replan → ((t : ℕ) → Contains dirty t → t < length (names_in replan)) → ((t : ℕ) → t < length (names_in replan) → HaveOneName (names_in replan) t task → Contains dirty t) → IsWorkable view.rows view.plan.tasks replan.names dirty
settled_workable says view task replan dirty is within whole = record {
  long = is.made.long;
  wide = is.made.wide;
  within = λ t h. omega (arith, within t h, is.made.long);
  right = λ t. elim (cases_lt t (length (names_in replan))) [
    | inr past ↦ inr (right_past view.rows view.plan.tasks replan.names t is.made.long (omega (arith, past, is.made.long)))
    | inl inside ↦ elim (one_name (names_in replan) t task) [
      | inl one ↦ inl (whole t inside one)
      | inr apart ↦ inr (record { named = is.made.named t; hashed = is.hashed t apart; clear = is.clear t (λ ne. apart) })
    ]
  ];
  found = is.made.found;
}

-- where names differ and the unihash is the one that is kept, nothing changes
pub kept_current : (says : Says) (view : View) (task : ℕ) (replan : Replan) → task < length view.plan.tasks → IsSettled says view task replan → replan.names.distinct ≡ true → IsHashed view.rows (names_in replan) (unihashes_in replan) task → IsCurrent says view replan
kept_current says view task replan lt is distinct hashed = record {
  made = is.made;
  hashed = λ t. elim (one_name (names_in replan) t task) [
    | inl one ↦ subst (IsHashed view.rows (names_in replan) (unihashes_in replan)) (sym (same t one)) hashed
    | inr apart ↦ is.hashed t apart
  ];
  clear = λ t. is.clear t (λ ne one. ne (same t one));
  needs = is.needs;
}
  where
    zeros : Hash
    zeros = record { bytes = [] }

    name : Hash
    name = get_or (names_in replan) task zeros

    at : slice_get (names_in replan) task ≡ Some name
    at = slice_get-get_or (names_in replan) task zeros (omega (arith, lt, is.made.long))

    same : (t : ℕ) → HaveOneName (names_in replan) t task → t ≡ task
    same t one = alone replan.names task t name distinct at (is.made.found task) (is.made.found t) one

-- ---- what is known stays known where no unihash changed

pub known_on : (says : Says) (view : View) (us vs : List Hash) (t : ℕ) (kept : Option Avail) → IsUntouched view.plan.tasks us vs t → IsKnown says view us t kept → IsKnown says view vs t kept
known_on says view us vs t kept free is = record {
  told = λ task there at e. subst (λ (g : SigRecord). says t g there) (sym (one task at)) (is.told task there at e);
  stored = λ task at there. subst (λ (g : SigRecord). row_at view.rows (name_of g) ≢ None) (sym (one task at)) (is.stored task at there);
}
  where
    one : (task : PlanTask) → slice_get view.plan.tasks t ≡ Some task → signature_by view.plan.tasks vs task ≡ signature_by view.plan.tasks us task
    one task at = signature_local view.plan.tasks vs us task (subst (λ ds. All (λ d. slice_get vs d ≡ slice_get us d) ds) (ap deps_in at) free)

-- unihashes of tasks that are all right are those over the rows
pub right_over : (rows : List EquivRow) (tasks : List PlanTask) (kept : Names) → AreOrdered tasks → length kept.names.items ≡ length tasks → length kept.unihashes.items ≡ length tasks → ((t : ℕ) → IsRightAt rows tasks kept t) → kept.unihashes.items ≡ unihashes_over rows tasks
right_over rows tasks kept ordered long wide right =
    unihashes_over_rows rows tasks kept.names.items kept.unihashes.items ordered (record { long = long; wide = wide; named = λ t. (right t).named; hashed = λ t. (right t).hashed })

pub askable : (says : Says) (view : View) (task : ℕ) (old new : Replan) → AreOrdered view.plan.tasks → IsSettled says view task old → ReworksNames view task old new → IsAskable says view new
askable says view task old new ordered is r = record {
  wide = r.wide;
  over = right_over view.rows view.plan.tasks new.names ordered r.long r.wide r.right;
  need = subst (λ n. IsNeed view.plan n.avail.items n.need.items) (sym r.needs) is.needs.least;
  long = ap (λ n. length n.avail.items) r.needs ∙ is.needs.long;
  within = r.within;
  others = λ t member. elim (r.whole t) [
    | inl changed ↦ inl changed
    | inr free ↦ inr (subst (λ n. IsKnown says view (unihashes_in new) t (slice_get n.avail.items t)) (sym r.needs) (known_on says view (unihashes_in old) (unihashes_in new) t (slice_get (avail_in old) t) free (is.needs.known t (subst (λ n. IsIn n.need.items t) r.needs member))))
  ];
}

pub asked_current : (says : Says) (view : View) (task : ℕ) (old mid new : Replan) → IsSettled says view task old → ReworksNames view task old mid → AsksNeeds says view mid new → IsCurrent says view new
asked_current says view task old mid new is r a = record {
  made = record {
    long = ap (λ n. length n.names.items) a.names ∙ r.long;
    wide = ap (λ n. length n.unihashes.items) a.names ∙ r.wide;
    named = λ t. subst (λ n. IsNamed view.plan.tasks n.names.items n.unihashes.items t) (sym a.names) (r.right t).named;
    above = subst (λ v. IsAbove view.plan.tasks v.items) (sym (a.above ∙ r.above)) is.made.above;
    found = λ t. subst (λ n. IsFound n t) (sym a.names) (r.found t);
  };
  hashed = λ t. subst (λ n. IsHashed view.rows n.names.items n.unihashes.items t) (sym a.names) (r.right t).hashed;
  clear = λ t. subst (λ n. IsClearAt view.rows view.plan.tasks n.unihashes.items t) (sym a.names) (r.right t).clear;
  needs = a.needs;
}

-- ---- a value that is made

pub new_current : (says : Says) (view : View) (plan : Plan) (replan : Replan) → view.plan ≡ plan → length (names_in replan) ≡ length plan.tasks → length (unihashes_in replan) ≡ length plan.tasks → ((t : ℕ) → IsRightAt view.rows plan.tasks replan.names t) → ((t : ℕ) → IsFound replan.names t) →
    IsAbove plan.tasks replan.above.items → AreNeeds says view (unihashes_in replan) (need_in replan) (avail_in replan) → IsCurrent says view replan
new_current says view plan replan is long wide right found above needs = record {
  made = record {
    long = long ∙ ap (λ (p : Plan). length p.tasks) (sym is);
    wide = wide ∙ ap (λ (p : Plan). length p.tasks) (sym is);
    named = λ t. subst (λ (p : Plan). IsNamed p.tasks (names_in replan) (unihashes_in replan) t) (sym is) (right t).named;
    above = subst (λ (p : Plan). IsAbove p.tasks replan.above.items) (sym is) above;
    found = found;
  };
  hashed = λ t. (right t).hashed;
  clear = λ t. subst (λ (p : Plan). IsClearAt view.rows p.tasks (unihashes_in replan) t) (sym is) (right t).clear;
  needs = needs;
}

-- ---- values that differ in what was worked out last alone

pub settled_alike : (says : Says) (view : View) (task : ℕ) (old new : Replan) → new.names ≡ old.names → new.above ≡ old.above → new.needs ≡ old.needs → IsSettled says view task old → IsSettled says view task new
settled_alike says view task old new names above needs is = record {
  made = record {
    long = ap (λ n. length n.names.items) names ∙ is.made.long;
    wide = ap (λ n. length n.unihashes.items) names ∙ is.made.wide;
    named = λ t. subst (λ n. IsNamed view.plan.tasks n.names.items n.unihashes.items t) (sym names) (is.made.named t);
    above = subst (λ v. IsAbove view.plan.tasks v.items) (sym above) is.made.above;
    found = λ t. subst (λ n. IsFound n t) (sym names) (is.made.found t);
  };
  hashed = λ t apart. subst (λ n. IsHashed view.rows n.names.items n.unihashes.items t) (sym names) (is.hashed t (subst (λ n. HaveOneName n.names.items t task → ⊥) names apart));
  clear = λ t apart. subst (λ n. IsClearAt view.rows view.plan.tasks n.unihashes.items t) (sym names) (is.clear t (subst (λ n. t ≢ task → HaveOneName n.names.items t task → ⊥) names apart));
  needs = needs_alike;
}
  where
    by_needs : AreNeeds says view (unihashes_in old) (need_in new) (avail_in new)
    by_needs = subst (λ n. AreNeeds says view (unihashes_in old) n.need.items n.avail.items) (sym needs) is.needs

    needs_alike : AreNeeds says view (unihashes_in new) (need_in new) (avail_in new)
    needs_alike = subst (λ n. AreNeeds says view n.unihashes.items (need_in new) (avail_in new)) (sym names) by_needs

-- what the work on names did
pub reworks_names : (view : View) (task : ℕ) (old new : Replan) (dirty : List ℕ) → IsWorked view.rows view.plan.tasks old.names new.names dirty new.changed.items → ((t : ℕ) → Contains dirty t → HaveOneName (names_in old) t task) → Contains dirty task → new.above ≡ old.above → new.needs ≡ old.needs → ReworksNames view task old new
reworks_names view task old new dirty w only own above needs = record {
  long = w.long;
  wide = w.wide;
  right = w.right;
  found = w.found;
  within = w.within;
  whole = w.whole;
  own = w.all task own;
  reworked = record { once = w.once; each = λ t h. elim (w.each t h) [ inl s ↦ inl (only t s) | inr u ↦ inr u ] };
  above = above;
  needs = needs;
}

-- the names that are kept are those from scratch
pub names_scratch : (says : Says) (view : View) (plan : Plan) (replan : Replan) → view.plan ≡ plan → AreOrdered plan.tasks → IsCurrent says view replan → names_in replan ≡ names_over view.rows plan.tasks
names_scratch says view plan replan is ordered current =
    subst (λ (p : Plan). names_in replan ≡ names_over view.rows p.tasks) is (names_current says view replan (subst (λ (p : Plan). AreOrdered p.tasks) (sym is) ordered) current)
