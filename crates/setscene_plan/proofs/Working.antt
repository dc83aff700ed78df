-- Names that are worked out anew, one after the other.
use Rattle.std.proofs.Common.{◌≡◌, ◌≢◌, ◌∙◌, sym, ap, subst, refl, ℕ, zero, suc, ◌+◌, ◌<◌, ◌≤◌, arith, Bool, true, false, nat_eq, List, [], ◌∷◌, length, get_or, set, length-set, get_or-set_same, All, Contains, IfSome, Option, Some, slice_get, inl, inr, eqb-true}
use Rattle.std.specs.HashMap.{get}
use Rattle.std.specs.Cmp.Lexicographic.{pointwise}
use Rattle.std.proofs.lemmas.Bool.{cases_lt}
use Rattle.std.proofs.lemmas.List.{set-get_or}
use Rattle.std.proofs.lemmas.Option.{same_Some, slice_get-get_or, slice_get_within}
use Rattle.tree_model.specs.declared.hash.Hash.{Hash}
use Rattle.meta_model.specs.declared.plan.PlanTask.{PlanTask}
use Rattle.meta_model.proofs.Bools.{either_way}
use Rattle.run_core.specs.Need.{AreOrdered}
use Rattle.tale_model.specs.Need.{deps_of}
use Rattle.store_model.specs.declared.signature.EquivRow.{EquivRow}
use Rattle.store_model.specs.Rows.{uni, IsClear}
use Rattle.store_model.specs.Spelling.{name_of, signature_bytes}
use Rattle.sig_gen.specs.Signing.{signature_by}
use Rattle.setscene_plan.specs.declared.work.Names.{Names}
use Rattle.setscene_plan.specs.Names.{IsClearAt}
use Rattle.setscene_plan.specs.Owners.{IsOwned, Owners}
use Rattle.setscene_plan.specs.Reworks.{HaveOneName, IsFound, IsRightAt, PutsAll, Renames}
use Rattle.setscene_plan.proofs.Learning.{else_where}
use Rattle.setscene_plan.proofs.Renaming.{clear_kept, hashed_kept, named_kept, needs_before, signature_kept}

-- ---- one place

-- a task is named, found by its name, and has its unihash
pub named_one : (rows : List EquivRow) (tasks : List PlanTask) (place : ℕ) (old put new : Names) (name unihash : Hash) (text : List ℕ) (us : List Hash) → place < length tasks → length old.names.items ≡ length tasks
    → length old.unihashes.items ≡ length tasks → us ≡ old.unihashes.items
    → IfSome (slice_get tasks place) (λ own. name ≡ name_of (signature_by tasks us own)) → IfSome (slice_get tasks place) (λ own. text ≡ signature_bytes (signature_by tasks us own)) → IsClear rows name text
    → put.names.items ≡ set old.names.items place name → put.unihashes.items ≡ old.unihashes.items → new ≡ record put { unihashes = new.unihashes } → new.unihashes.items ≡ set put.unihashes.items place unihash
    → unihash ≡ uni rows name → IsFound put place → ((t : ℕ) → t ≢ place → IsFound old t → IsFound put t) → Renames rows tasks place old new
named_one rows tasks place old put new name unihash text us lt long wide kept named spelled clear names same only hashes known found others = record {
  long = ap length new_names ∙ length-set old.names.items place name;
  wide = ap length new_us ∙ length-set old.unihashes.items place unihash;
  names = λ t ne. ap (λ (l : List Hash). slice_get l t) new_names ∙ else_where old.names.items name place t ne;
  unihashes = λ t ne. ap (λ (l : List Hash). slice_get l t) new_us ∙ else_where old.unihashes.items unihash place t ne;
  named = λ task at. named_here ∙ ap Some (own task at);
  clear = λ task at. subst (λ (n : Hash). IsClear rows n (signature_bytes (signature_by tasks old.unihashes.items task))) (own task at) (subst (IsClear rows name) (own_text task at) clear);
  hashed = λ n at. ap (λ (l : List Hash). slice_get l place) new_us ∙ there old.unihashes.items unihash (omega (arith, lt, wide)) ∙ ap Some (known ∙ ap (uni rows) (same_Some name n (sym named_here ∙ at)));
  found = subst (λ (n : Names). IsFound n place) (sym only) found;
  others = λ t ne is. subst (λ (n : Names). IsFound n t) (sym only) (others t ne is);
}
  where
    new_names : new.names.items ≡ set old.names.items place name
    new_names = ap (λ (n : Names). n.names.items) only ∙ names

    new_us : new.unihashes.items ≡ set old.unihashes.items place unihash
    new_us = hashes ∙ ap (λ (l : List Hash). set l place unihash) same

    there : (xs : List Hash) (v : Hash) → place < length xs → slice_get (set xs place v) place ≡ Some v
    there xs v inside = slice_get-get_or (set xs place v) place v (omega (arith, inside, length-set xs place v)) ∙ ap Some (get_or-set_same xs place v v inside)

    named_here : slice_get new.names.items place ≡ Some name
    named_here = ap (λ (l : List Hash). slice_get l place) new_names ∙ there old.names.items name (omega (arith, lt, long))

    own : (task : PlanTask) → slice_get tasks place ≡ Some task → name ≡ name_of (signature_by tasks old.unihashes.items task)
    own task at = subst (λ (o : Option PlanTask). IfSome o (λ x. name ≡ name_of (signature_by tasks us x))) at named ∙ ap (λ (l : List Hash). name_of (signature_by tasks l task)) kept

    own_text : (task : PlanTask) → slice_get tasks place ≡ Some task → text ≡ signature_bytes (signature_by tasks old.unihashes.items task)
    own_text task at = subst (λ (o : Option PlanTask). IfSome o (λ x. text ≡ signature_bytes (signature_by tasks us x))) at spelled ∙ ap (λ (l : List Hash). signature_bytes (signature_by tasks l task)) kept

pub put_same : (us : List Hash) (place : ℕ) (v u : Hash) → v ≡ get_or us place v → v ≡ u → us ≡ set us place u
put_same us place v u e f = sym (ap (set us place) (sym f ∙ e) ∙ set-get_or us place v)

pub put_other : (us : List Hash) (place : ℕ) (v u : Hash) → place < length us → v ≡ get_or us place v → (v ≡ u → ⊥) → slice_get (set us place u) place ≢ slice_get us place
put_other us place v u lt e differ same =
    let here : slice_get (set us place u) place ≡ Some u = slice_get-get_or (set us place u) place u (omega (arith, lt, length-set us place u)) ∙ ap Some (get_or-set_same us place u u lt) in
    let was : slice_get us place ≡ Some v = slice_get-get_or us place v lt ∙ ap Some (sym e) in
    differ (sym (same_Some u v (sym here ∙ same ∙ was)))

-- ---- the index

same_bytes : (xs ys : List ℕ) → pointwise nat_eq xs ys ≡ true → xs ≡ ys
same_bytes [] [] e = refl
same_bytes [] (y ∷ ys) e = absurd (cc)
same_bytes (x ∷ xs) [] e = absurd (cc)
same_bytes (x ∷ xs) (y ∷ ys) e = by (nat_eq x y) refl (same_bytes xs ys)
  where
    by : (b : Bool) → nat_eq x y ≡ b → (pointwise nat_eq xs ys ≡ true → xs ≡ ys) → x ∷ xs ≡ y ∷ ys
    by true t more =
        let first : x ≡ y = eqb-true x y t in
        let rest = more (rw t at e) in
        λ i. first i ∷ rest i
    by false f more = let g = rw f at e in absurd (cc)

pub claimed : (old new : Owners) (distinct : Bool) (names : List Hash) (place t : ℕ) (name : Hash) (owner : Option ℕ) → owner ≡ get (pointwise nat_eq) old name.bytes →
    ((u : ℕ) → owner ≡ Some u → slice_get names u ≡ Some name → u ≡ place) → ((q : List ℕ) → pointwise nat_eq name.bytes q ≡ false → get (pointwise nat_eq) new q ≡ get (pointwise nat_eq) old q) →
    t ≢ place → IsOwned distinct old names t → IsOwned distinct new names t
claimed old new distinct names place t name owner is free others ne owned d other at = elim (either_way (pointwise nat_eq name.bytes other.bytes)) [
  | inl same ↦
      let one : name ≡ other = ap (λ b. record { bytes = b }) (same_bytes name.bytes other.bytes same) in
      absurd (ne (free t (is ∙ ap (λ (h : Hash). get (pointwise nat_eq) old h.bytes) one ∙ owned d other at) (at ∙ ap Some (sym one))))
  | inr apart ↦ others other.bytes apart ∙ owned d other at
]

-- ---- tasks of one name

-- of the tasks below a place those that have a task's name
pub record AreNamesakes (names : List Hash) (task place : ℕ) (keys : List ℕ) : Type 0 where
  pub only : (t : ℕ) → Contains keys t → HaveOneName names t task
  pub within : (t : ℕ) → Contains keys t → t < place
  pub whole : (t : ℕ) → t < place → HaveOneName names t task → Contains keys t

pub namesake_in : (names : List Hash) (task place : ℕ) (keys more : List ℕ) → AreNamesakes names task place keys → HaveOneName names place task → PutsAll (place ∷ []) keys more → AreNamesakes names task (place + 1) more
namesake_in names task place keys more are same puts = record {
  only = λ t h. elim (puts.only t h) [ inl old ↦ are.only t old | inr new ↦ subst (λ x. HaveOneName names x task) (sym (only_one t new)) same ];
  within = λ t h. elim (puts.only t h) [ inl old ↦ omega (arith, are.within t old) | inr new ↦ omega (arith, only_one t new) ];
  whole = λ t lt one. elim (cases_lt t place) [
    | inl front ↦ puts.kept t (are.whole t front one)
    | inr last ↦ let at : place ≡ t = omega (arith, lt, last) in subst (Contains more) at (puts.put place (0, omega arith, refl))
  ];
}
  where
    only_one : (t : ℕ) → Contains (place ∷ []) t → t ≡ place
    only_one t (zero, lt, e) = sym e
    only_one t (suc k, lt, e) = absurd (omega (arith, lt))

pub namesake_out : (names : List Hash) (task place : ℕ) (keys : List ℕ) → AreNamesakes names task place keys → (HaveOneName names place task → ⊥) → AreNamesakes names task (place + 1) keys
namesake_out names task place keys are differ = record {
  only = are.only;
  within = λ t h. omega (arith, are.within t h);
  whole = λ t lt one. elim (cases_lt t place) [
    | inl front ↦ are.whole t front one
    | inr last ↦ let at : t ≡ place = omega (arith, lt, last) in absurd (differ (subst (λ x. HaveOneName names x task) at one))
  ];
}

-- where names are known to differ a task has none but itself
pub alone : (kept : Names) (task t : ℕ) (name : Hash) → kept.distinct ≡ true → slice_get kept.names.items task ≡ Some name → IsFound kept task → IsFound kept t → HaveOneName kept.names.items t task → t ≡ task
alone kept task t name distinct at own other one = same_Some t task (sym (other distinct name (one ∙ at)) ∙ own distinct name at)

-- ---- one task named anew

module _ (rows : List EquivRow) (tasks : List PlanTask) (place : ℕ) (old new : Names) (ordered : AreOrdered tasks) (r : Renames rows tasks place old new) where
  pub renamed_else : (t : ℕ) → t ≢ place → All (λ d. d ≢ place) (deps_of tasks t) → IsRightAt rows tasks old t → IsRightAt rows tasks new t
  renamed_else t ne free is = record {
    named = named_kept tasks old.names.items old.unihashes.items new.names.items new.unihashes.items place r.names r.unihashes t ne free is.named;
    hashed = hashed_kept tasks old.names.items old.unihashes.items new.names.items new.unihashes.items place r.names r.unihashes rows t ne is.hashed;
    clear = clear_kept tasks old.names.items old.unihashes.items new.names.items new.unihashes.items place r.names r.unihashes rows t free is.clear;
  }

  pub renamed_here : IsRightAt rows tasks new place
  renamed_here =
      let free = needs_before tasks place place ordered (omega arith) in
      record {
        named = λ task at. r.named task at ∙ ap (λ g. Some (name_of g)) (sym (signature_kept tasks old.names.items old.unihashes.items new.names.items new.unihashes.items place r.names r.unihashes place task at free));
        hashed = r.hashed;
        clear = clear_kept tasks old.names.items old.unihashes.items new.names.items new.unihashes.items place r.names r.unihashes rows place free r.clear;
      }

  pub renamed_more : ((t : ℕ) → t < place → IsRightAt rows tasks old t) → (t : ℕ) → t < place + 1 → IsRightAt rows tasks new t
  renamed_more before t lt = elim (cases_lt t place) [
    | inl front ↦ renamed_else t (λ e. omega (arith, e, front)) (needs_before tasks place t ordered (omega (arith, front))) (before t front)
    | inr last ↦ let at : place ≡ t = omega (arith, lt, last) in subst (IsRightAt rows tasks new) at renamed_here
  ]

  pub found_more : ((t : ℕ) → t < place → IsFound old t) → (t : ℕ) → t < place + 1 → IsFound new t
  found_more before t lt = elim (cases_lt t place) [
    | inl front ↦ r.others t (λ e. omega (arith, e, front)) (before t front)
    | inr last ↦ let at : place ≡ t = omega (arith, lt, last) in subst (IsFound new) at r.found
  ]

-- past all tasks there is nothing to be right
pub right_past : (rows : List EquivRow) (tasks : List PlanTask) (kept : Names) (t : ℕ) → length kept.names.items ≡ length tasks → length tasks ≤ t → IsRightAt rows tasks kept t
right_past rows tasks kept t long past = record {
  named = λ task at. absurd (omega (arith, slice_get_within tasks t task at, past));
  hashed = λ name at. absurd (omega (arith, slice_get_within kept.names.items t name at, past, long));
  clear = λ task at. absurd (omega (arith, slice_get_within tasks t task at, past));
}

pub right_all : (rows : List EquivRow) (tasks : List PlanTask) (kept : Names) (place : ℕ) → length kept.names.items ≡ length tasks → length tasks ≤ place → ((t : ℕ) → t < place → IsRightAt rows tasks kept t) → (t : ℕ) → IsRightAt rows tasks kept t
right_all rows tasks kept place long past before t = elim (cases_lt t place) [ inl front ↦ before t front | inr last ↦ right_past rows tasks kept t long (omega (arith, past, last)) ]

pub found_all : (tasks : List PlanTask) (kept : Names) (place : ℕ) → length kept.names.items ≡ length tasks → length tasks ≤ place → ((t : ℕ) → t < place → IsFound kept t) → (t : ℕ) → IsFound kept t
found_all tasks kept place long past before t = elim (cases_lt t place) [
  | inl front ↦ before t front
  | inr last ↦ λ distinct name at. absurd (omega (arith, slice_get_within kept.names.items t name at, past, long, last))
]

-- where no unihash changed the others stay right
pub renamed_same : (rows : List EquivRow) (tasks : List PlanTask) (place : ℕ) (old new : Names) → Renames rows tasks place old new → new.unihashes.items ≡ old.unihashes.items → (t : ℕ) → t ≢ place → IsRightAt rows tasks old t → IsRightAt rows tasks new t
renamed_same rows tasks place old new r same t ne is = record {
  named = λ task at. r.names t ne ∙ is.named task at ∙ ap (λ us. Some (name_of (signature_by tasks us task))) (sym same);
  hashed = λ name at. r.unihashes t ne ∙ is.hashed name (sym (r.names t ne) ∙ at);
  clear = subst (λ us. IsClearAt rows tasks us t) (sym same) is.clear;
}
