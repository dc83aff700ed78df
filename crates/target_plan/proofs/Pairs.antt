-- Tasks whose PNs and names were seen in a set.
use Rattle.std.proofs.Common.{◌≡◌, ◌∙◌, sym, ap, subst, refl, ℕ, ◌+◌, ◌<◌, ◌≤◌, inl, inr, arith, Bool, true, false, List, [], ◌∷◌, length, get_or, Some, slice_get}
use Rattle.std.specs.Prelude.{◌||◌, not, AllPairs}
use Rattle.std.specs.List.{AllByRecursion, list_any}
use Rattle.std.specs.Ordering.{is_eq, nat_cmp, ordering_then}
use Rattle.std.specs.Cmp.Lexicographic.{slice_cmp}
use Rattle.std.specs.BTreeMap.{is_at}
use Rattle.std.proofs.lemmas.Bool.{cases_lt}
use Rattle.std.proofs.lemmas.Option.{slice_get-get_or, slice_get_within}
use Rattle.plan_model.proofs.Reached.{pair_at, pairs_from}
use Rattle.std.proofs.lemmas.Map.Text.{is_eq-slice_cmp}
use Rattle.meta_model.proofs.Bools.{not_both, or_later, same_text}
use Rattle.store_model.proofs.Ordered.{each_weaker}
use denote.Ref.{Bor}
use Rattle.meta_model.specs.declared.plan.PlanTask.{PlanTask}
use Rattle.store_model.specs.Premises.{Differ}
use Rattle.std.specs.declared.cmp.Ordering.{Ordering}
use Rattle.std.specs.declared.cmp.Ordering.TheVariants.{Less, Equal, Greater}
use Rattle.std.specs.BTreeSet.{insert_key}

-- what holds of the keys of a set and of one more key, holds of the keys with that one
with_key : {K : Type 0} (P : K → Type 0) (cmp : K → K → Ordering) (keys : List K) (key : K) → P key → AllByRecursion P keys → AllByRecursion P (insert_key cmp keys key)
with_key P cmp [] key p all = (p, tt)
with_key P cmp (x ∷ keys) key p all = by (cmp key x) refl (with_key P cmp keys key p all.1)
  where
    by : (o : Ordering) → cmp key x ≡ o → AllByRecursion P (insert_key cmp keys key) → AllByRecursion P (insert_key cmp (x ∷ keys) key)
    by Less e more = rw e (p, all)
    by Equal e more = rw e all
    by Greater e more = rw e (all.0, more)

module _ {K : Type 0} (cmp : K → K → Ordering) where
  -- what is among the keys of a set is there with one more key
  pub stays : (p : K → Bool) (keys : List K) (key : K) → list_any p keys ≡ true → list_any p (insert_key cmp keys key) ≡ true
  stays p [] key h = absurd (let n : false ≡ true = h in cc)
  stays p (x ∷ keys) key h = by (cmp key x) refl (stays p keys key)
    where
      later : (b : Bool) → p x ≡ b → (b || list_any p keys) ≡ true → (list_any p keys ≡ true → list_any p (insert_key cmp keys key) ≡ true) → (b || list_any p (insert_key cmp keys key)) ≡ true
      later true e k more = refl
      later false e k more = more k

      by : (o : Ordering) → cmp key x ≡ o → (list_any p keys ≡ true → list_any p (insert_key cmp keys key) ≡ true) → list_any p (insert_key cmp (x ∷ keys) key) ≡ true
      by Less e more = rw e (or_later (p key) (p x || list_any p keys) h)
      by Equal e more = rw e h
      by Greater e more = rw e (later (p x) refl h more)

-- a PN and a name, as they are seen
abbrev pub Pair : Type 0
Pair = Bor (List ℕ) × Bor (List ℕ)

abbrev pub pair_cmp : Pair → Pair → Ordering
pair_cmp x y = ordering_then (slice_cmp nat_cmp x.0.now y.0.now) (slice_cmp nat_cmp x.1.now y.1.now)

-- whether the PN and the name are among those that were seen
abbrev pub is_seen : List ℕ → List ℕ → List Pair → Bool
is_seen pn name keys = list_any (is_at (λ (k : Pair). ordering_then (slice_cmp nat_cmp pn k.0.now) (slice_cmp nat_cmp name k.1.now))) keys

-- the key is the PN and the name of one of the first tasks
abbrev pub IsOf : List PlanTask → ℕ → Pair → Type 0
IsOf tasks count key = (k : ℕ) × (task : PlanTask) × (k < count) × (slice_get tasks k ≡ Some task) × (key.0.now ≡ task.id.pn) × (key.1.now ≡ task.id.task)

-- the first tasks were seen and no others, and each two of them differ
pub record AreSeen (tasks : List PlanTask) (count : ℕ) (keys : List Pair) : Type 0 where
  pub seen : (k : ℕ) (task : PlanTask) → k < count → slice_get tasks k ≡ Some task → is_seen task.id.pn task.id.task keys ≡ true
  pub others : AllByRecursion (IsOf tasks count) keys
  pub differ : (i j : ℕ) (a b : PlanTask) → i < j → j < count → slice_get tasks i ≡ Some a → slice_get tasks j ≡ Some b → Differ a b

pub none_seen : (tasks : List PlanTask) (keys : List Pair) → keys ≡ [] → AreSeen tasks 0 keys
none_seen tasks keys none = record {
  seen = λ k task lt e. absurd (omega arith);
  others = subst (AllByRecursion (IsOf tasks 0)) (sym none) tt;
  differ = λ i j a b lt less e f. absurd (omega arith);
}

-- keys that are equal have the same texts
same_texts : (a b c d : List ℕ) → is_eq (ordering_then (slice_cmp nat_cmp a b) (slice_cmp nat_cmp c d)) ≡ true → (a ≡ b) × (c ≡ d)
same_texts a b c d e = by (slice_cmp nat_cmp a b) refl e
  where
    same : (x y : List ℕ) → is_eq (slice_cmp nat_cmp x y) ≡ true → x ≡ y
    same x y h = same_text x y (sym (is_eq-slice_cmp x y) ∙ h)

    by : (o : Ordering) → slice_cmp nat_cmp a b ≡ o → is_eq (ordering_then o (slice_cmp nat_cmp c d)) ≡ true → (a ≡ b) × (c ≡ d)
    by Less f h = absurd (let n : false ≡ true = h in cc)
    by Equal f h = (same a b (ap is_eq f), same c d h)
    by Greater f h = absurd (let n : false ≡ true = h in cc)

-- a key that is found is one of the keys
found : {K : Type 0} (P : K → Type 0) (p : K → Bool) (keys : List K) → AllByRecursion P keys → list_any p keys ≡ true → (q : K) × P q × (p q ≡ true)
found P p [] all h = absurd (let n : false ≡ true = h in cc)
found {K} P p (x ∷ keys) all h = by (p x) refl h (found P p keys all.1)
  where
    by : (b : Bool) → p x ≡ b → (b || list_any p keys) ≡ true → (list_any p keys ≡ true → (q : K) × P q × (p q ≡ true)) → (q : K) × P q × (p q ≡ true)
    by true e k more = (x, all.0, e)
    by false e k more = more k

-- one more task whose PN and name weren't seen
module _ (tasks : List PlanTask) (count : ℕ) (read : PlanTask) (lt : count < length tasks) (is : read ≡ get_or tasks count read) (key : Pair) (pn_is : key.0.now ≡ read.id.pn) (name_is : key.1.now ≡ read.id.task) where
  at : slice_get tasks count ≡ Some read
  at = slice_get-get_or tasks count read lt ∙ ap (λ (t : PlanTask). Some t) (sym is)

  same_at : (k : ℕ) (task : PlanTask) → k ≡ count → slice_get tasks k ≡ Some task → read ≡ task
  same_at k task is e = let both : Some read ≡ Some task = sym at ∙ ap (slice_get tasks) (sym is) ∙ e in cc

  key_seen : (keys : List Pair) (b : Bool) → list_any (is_at (pair_cmp key)) keys ≡ b → is_seen read.id.pn read.id.task keys ≡ b
  key_seen keys b e = subst (λ n. is_seen read.id.pn n keys ≡ b) name_is (subst (λ p. is_seen p key.1.now keys ≡ b) pn_is e)

  -- it differs from no earlier one where it was seen
  pub seen_before : (old : List Pair) (added : Bool) → added ≡ not (list_any (is_at (pair_cmp key)) old) → added ≡ false → AreSeen tasks count old → AllPairs Differ tasks → ⊥
  seen_before old added new_is not_new before all =
      let f = found (IsOf tasks count) (is_at (pair_cmp key)) old before.others (there (list_any (is_at (pair_cmp key)) old) (sym not_new ∙ new_is)) in
      let same = same_texts key.0.now f.0.0.now key.1.now f.0.1.now f.2 in
      let one = f.1 in
      pair_at Differ tasks all one.0 count one.1 read one.2 one.3 at (sym one.4 ∙ sym same.0 ∙ pn_is) (sym one.5 ∙ sym same.1 ∙ name_is)
    where
      there : (b : Bool) → false ≡ not b → b ≡ true
      there true e = refl
      there false e = absurd (let n : false ≡ true = e in cc)

  pub one_more : (old new : List Pair) (added : Bool) → added ≡ not (list_any (is_at (pair_cmp key)) old) → added ≡ true → new ≡ insert_key pair_cmp old key → list_any (is_at (pair_cmp key)) new ≡ true → AreSeen tasks count old → AreSeen tasks (count + 1) new
  one_more old new added new_is is_new keys_are there before = record {
    seen = λ k task less_more e. elim (cases_lt k count) [
      | inl less ↦ subst (λ (l : List Pair). is_seen task.id.pn task.id.task l ≡ true) (sym keys_are)
          (stays pair_cmp (is_at (λ (q : Pair). ordering_then (slice_cmp nat_cmp task.id.pn q.0.now) (slice_cmp nat_cmp task.id.task q.1.now))) old key (before.seen k task less e))
      | inr more ↦ subst (λ (t : PlanTask). is_seen t.id.pn t.id.task new ≡ true) (same_at k task (omega arith) e) (key_seen new true there)
    ];
    others = subst (AllByRecursion (IsOf tasks (count + 1))) (sym keys_are) (with_key (IsOf tasks (count + 1)) pair_cmp old key (count, read, omega arith, at, pn_is, name_is) (each_weaker (IsOf tasks count) (IsOf tasks (count + 1)) (λ q o. (o.0, o.1, omega (arith, o.2), o.3, o.4, o.5)) old before.others));
    differ = λ i j a b before_it within e f. elim (cases_lt j count) [
      | inl less ↦ before.differ i j a b before_it less e f
      | inr more ↦ λ pn name.
          let same = same_at j b (omega arith) f in
          let seen = before.seen i a (omega arith) e in
          let again : is_seen read.id.pn read.id.task old ≡ true = subst (λ (t : PlanTask). is_seen t.id.pn t.id.task old ≡ true) (sym same) (subst (λ n. is_seen b.id.pn n old ≡ true) name (subst (λ p. is_seen p a.id.task old ≡ true) pn seen)) in
          not_both (is_seen read.id.pn read.id.task old) again (key_seen old false (absent (list_any (is_at (pair_cmp key)) old) (sym is_new ∙ new_is)))
    ];
  }
    where
      absent : (b : Bool) → true ≡ not b → b ≡ false
      absent false e = refl
      absent true e = absurd (let n : true ≡ false = e in cc)

-- all tasks were seen
pub all_seen : (tasks : List PlanTask) (count : ℕ) (keys : List Pair) → length tasks ≤ count → AreSeen tasks count keys → AllPairs Differ tasks
all_seen tasks count keys all seen = pairs_from Differ tasks (λ i j a b lt e f. let within = slice_get_within tasks j b f in seen.differ i j a b lt (omega (arith, within, all)) e f)
