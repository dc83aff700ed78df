-- Names that are worked out task by task are those from scratch.
use Rattle.std.proofs.Common.{◌≡◌, ◌∙◌, sym, ap, subst, refl, ℕ, zero, suc, ◌<◌, ◌≤◌, arith, List, [], ◌∷◌, ◌++◌, length, get_or, map, All, Option, Some, None, slice_get, append_assoc, inl, inr, ◌⊎◌}
use Rattle.std.specs.Option.{option_map}
use Rattle.std.specs.List.{AllByRecursion, cons_option, filter_map}
use Rattle.std.proofs.lemmas.List.{append-nil, length-map, map-append}
use Rattle.std.proofs.lemmas.List.Elements.{recursion_from_All}
use Rattle.std.proofs.lemmas.Option.{same_Some, slice_get-map, slice_get_past, slice_get_within}
use Rattle.tree_model.specs.declared.hash.Hash.{Hash}
use Rattle.meta_model.specs.declared.plan.PlanTask.{PlanTask}
use Rattle.run_core.specs.Need.{AreOrdered}
use Rattle.tale_model.specs.Need.{deps_in}
use Rattle.store_model.specs.declared.signature.EquivRow.{EquivRow}
use Rattle.store_model.specs.Signatures.{Signed, signature, signatures, signed_from}
use Rattle.store_model.specs.Rows.{uni}
use Rattle.store_model.specs.Spelling.{name_of}
use Rattle.store_model.specs.Unihashes.{Hashed, hashed, signature_of}
use Rattle.store_model.proofs.Hashing.{signature_by_unihashes}
use Rattle.sig_gen.specs.Signing.{hashed_at, paired, signature_by}
use Rattle.setscene_plan.specs.Names.{AreNamed, IsHashed, IsNamed, NamesAreOver, names_over, unihashes_over}

-- ---- a signature depends on the unihashes of what its task needs alone

gathered_same : {B : Type 0} (f g : ℕ → Option B) (xs : List ℕ) → AllByRecursion (λ d. f d ≡ g d) xs → filter_map f xs ≡ filter_map g xs
gathered_same f g [] all = refl
gathered_same f g (x ∷ xs) all = let first = all.0 in let rest = gathered_same f g xs all.1 in λ i. cons_option (first i) (rest i)

pub signature_local : (tasks : List PlanTask) (us vs : List Hash) (task : PlanTask) → All (λ d. slice_get us d ≡ slice_get vs d) task.deps → signature_by tasks us task ≡ signature_by tasks vs task
unfolding signature_by
signature_local tasks us vs task same =
    ap (signature_of task) (gathered_same (hashed_at tasks us) (hashed_at tasks vs) task.deps
    (recursion_from_All (λ d. hashed_at tasks us d ≡ hashed_at tasks vs d) task.deps (λ k d lt. ap (paired (slice_get tasks (get_or task.deps k d))) (same k d lt))))

-- a signature by needed tasks that are found in another way
pub signature_gathered : (tasks : List PlanTask) (us : List Hash) (task : PlanTask) (g : ℕ → Option Hashed) → AllByRecursion (λ d. hashed_at tasks us d ≡ g d) task.deps → signature_by tasks us task ≡ signature_of task (filter_map g task.deps)
unfolding signature_by
signature_gathered tasks us task g same = ap (signature_of task) (gathered_same (hashed_at tasks us) g task.deps same)

-- ---- along a plan

signed_tasks : (rows : List EquivRow) (before : List Signed) (tasks : List PlanTask) → map (λ (s : Signed). s.task) (signed_from rows before tasks) ≡ map (λ (s : Signed). s.task) before ++ tasks
signed_tasks rows before [] = sym (append-nil (map (λ (s : Signed). s.task) before))
signed_tasks rows before (task ∷ tasks) =
    let s : Signed = record { task = task; sig = signature rows before task } in
    signed_tasks rows (before ++ s ∷ []) tasks
    ∙ ap (λ l. l ++ tasks) (map-append (λ (x : Signed). x.task) before (s ∷ []))
    ∙ append_assoc (map (λ (x : Signed). x.task) before) (task ∷ []) tasks

same_items : {A : Type 0} (xs ys : List A) → ((n : ℕ) → slice_get xs n ≡ slice_get ys n) → xs ≡ ys
same_items [] [] same = refl
same_items [] (y ∷ ys) same = let e : None ≡ Some y = same 0 in absurd (cc)
same_items (x ∷ xs) [] same = let e : Some x ≡ None = same 0 in absurd (cc)
same_items (x ∷ xs) (y ∷ ys) same =
    let first : x ≡ y = same_Some x y (same 0) in
    let rest = same_items xs ys (λ n. same (suc n)) in
    λ i. first i ∷ rest i

some_at : {A : Type 0} (xs : List A) (n : ℕ) → (slice_get xs n ≡ None) ⊎ ((x : A) × (slice_get xs n ≡ Some x))
some_at xs n = by (slice_get xs n) refl
  where
    by : (o : Option _) → slice_get xs n ≡ o → (slice_get xs n ≡ None) ⊎ ((x : _) × (slice_get xs n ≡ Some x))
    by None e = inl e
    by (Some x) e = inr (x, e)

none_past : {A : Type 0} (xs : List A) (n : ℕ) → slice_get xs n ≡ None → length xs ≤ n
none_past [] n e = omega arith
none_past (x ∷ xs) zero e = absurd (cc)
none_past (x ∷ xs) (suc n) e = omega (arith, none_past xs n e)

pub signed_count : (rows : List EquivRow) (tasks : List PlanTask) → length (signatures rows tasks) ≡ length tasks
signed_count rows tasks = sym (length-map (signatures rows tasks) (λ (s : Signed). s.task)) ∙ ap (λ l. length l) (signed_tasks rows [] tasks)

-- each task of a plan is signed
pub signed_at : (rows : List EquivRow) (tasks : List PlanTask) (n : ℕ) → n < length tasks → (s : Signed) × (slice_get (signatures rows tasks) n ≡ Some s)
signed_at rows tasks n lt = elim (some_at (signatures rows tasks) n) [
  | inl none ↦ absurd (omega (arith, lt, signed_count rows tasks, none_past (signatures rows tasks) n none))
  | inr found ↦ found
]

pub signed_task : (rows : List EquivRow) (tasks : List PlanTask) (n : ℕ) (s : Signed) → slice_get (signatures rows tasks) n ≡ Some s → slice_get tasks n ≡ Some s.task
signed_task rows tasks n s is =
    sym (ap (λ l. slice_get l n) (signed_tasks rows [] tasks)) ∙ slice_get-map (λ (x : Signed). x.task) (signatures rows tasks) n ∙ ap (λ o. option_map (λ (x : Signed). x.task) o) is

-- a list that has of each task what is made of its signature is what is made of all signatures
over_all : (rows : List EquivRow) (tasks : List PlanTask) (f : Signed → Hash) (items : List Hash) → length items ≡ length tasks → ((n : ℕ) (s : Signed) → slice_get (signatures rows tasks) n ≡ Some s → slice_get items n ≡ Some (f s)) → items ≡ map f (signatures rows tasks)
over_all rows tasks f items wide each = same_items items (map f (signatures rows tasks)) (λ n. by n (some_at (signatures rows tasks) n))
  where
    by : (n : ℕ) → (slice_get (signatures rows tasks) n ≡ None) ⊎ ((s : Signed) × (slice_get (signatures rows tasks) n ≡ Some s)) → slice_get items n ≡ slice_get (map f (signatures rows tasks)) n
    by n (inl none) =
        let past = none_past (signatures rows tasks) n none in
        slice_get_past items n (omega (arith, past, signed_count rows tasks, wide))
        ∙ sym (slice_get-map f (signatures rows tasks) n ∙ ap (λ o. option_map f o) none)
    by n (inr found) = each n found.0 found.1 ∙ sym (slice_get-map f (signatures rows tasks) n ∙ ap (λ o. option_map f o) found.1)

-- ---- by unihashes

module _ (rows : List EquivRow) (tasks : List PlanTask) (unihashes : List Hash) (ordered : AreOrdered tasks) where
  abbrev Everything : List Signed
  Everything = signatures rows tasks

  -- the tasks before a place have the unihashes of their signatures' names
  abbrev HashedBefore : ℕ → Type 0
  HashedBefore n = (d : ℕ) → d < n → (x : Signed) → slice_get Everything d ≡ Some x → slice_get unihashes d ≡ Some (uni rows (name_of x.sig))

  hashed_is : (n : ℕ) (s : Signed) → slice_get Everything n ≡ Some s → HashedBefore n → (d : ℕ) → d < n → hashed_at tasks unihashes d ≡ slice_get (map (hashed rows) Everything) d
  hashed_is n s is before d lower =
      let has : n < length Everything = slice_get_within Everything n s is in
      let found = signed_at rows tasks d (omega (arith, has, lower, signed_count rows tasks)) in
      let unihash = before d lower found.0 found.1 in
      (λ i. paired (signed_task rows tasks d found.0 found.1 i) (unihash i))
      ∙ sym (slice_get-map (hashed rows) Everything d ∙ ap (λ o. option_map (hashed rows) o) found.1)

  -- So the signature of the task at the place is its own.
  sig_is : (n : ℕ) (s : Signed) → slice_get Everything n ≡ Some s → HashedBefore n → signature_by tasks unihashes s.task ≡ s.sig
  sig_is n s is before =
      signature_gathered tasks unihashes s.task (slice_get (map (hashed rows) Everything)) (recursion_from_All (λ d. hashed_at tasks unihashes d ≡ slice_get (map (hashed rows) Everything) d) s.task.deps (λ k d inside. hashed_is n s is before (get_or s.task.deps k d) (below k d inside)))
      ∙ sym (signature_by_unihashes rows tasks n s is below)
    where
      below : All (λ d. d < n) s.task.deps
      below = subst (λ o. All (λ d. d < n) (deps_in o)) (signed_task rows tasks n s is) (ordered n)

  -- the signature of a task by the unihashes over the rows is its own
  pub signed_over : unihashes ≡ unihashes_over rows tasks → (n : ℕ) (s : Signed) → slice_get Everything n ≡ Some s → signature_by tasks unihashes s.task ≡ s.sig
  signed_over over n s is = sig_is n s is (λ d lower x at.
      ap (λ us. slice_get us d) over ∙ slice_get-map (λ (y : Signed). uni rows (name_of y.sig)) Everything d ∙ ap (λ o. option_map (λ (y : Signed). uni rows (name_of y.sig)) o) at)

  -- Where the tasks below a place have their names and unihashes, the signature of the task at the place is its own.
  module _ (names : List Hash) (place : ℕ) (are : (t : ℕ) → t < place → IsNamed tasks names unihashes t × IsHashed rows names unihashes t) where
    hashed_below : (k : ℕ) → k ≤ place → HashedBefore k
    hashed_below zero le d lower x is = absurd (omega (arith, lower))
    hashed_below (suc k) le d lower x is =
        let here = are d (omega (arith, lower, le)) in
        here.1 (name_of x.sig) (here.0 x.task (signed_task rows tasks d x is) ∙ ap (λ g. Some (name_of g)) (sig_is d x is (λ m small. hashed_below k (omega (arith, le)) m (omega (arith, small, lower)))))

    pub signed_here : (s : Signed) → slice_get Everything place ≡ Some s → signature_by tasks unihashes s.task ≡ s.sig
    signed_here s is = sig_is place s is (hashed_below place (omega arith))

module _ (rows : List EquivRow) (tasks : List PlanTask) (names unihashes : List Hash) (ordered : AreOrdered tasks) (are : AreNamed rows tasks names unihashes) where
  pub task_at : (n : ℕ) (s : Signed) → slice_get (signatures rows tasks) n ≡ Some s → slice_get tasks n ≡ Some s.task
  task_at n s is = signed_task rows tasks n s is

  -- the signature of a task by the unihashes that are kept is that from scratch
  pub signed_is : (n : ℕ) (s : Signed) → slice_get (signatures rows tasks) n ≡ Some s → signature_by tasks unihashes s.task ≡ s.sig
  signed_is n s is = signed_here rows tasks unihashes ordered names n (λ t lower. (are.named t, are.hashed t)) s is

  named_at : (n : ℕ) (s : Signed) → slice_get (signatures rows tasks) n ≡ Some s → slice_get names n ≡ Some (name_of s.sig)
  named_at n s is = are.named n s.task (task_at n s is) ∙ ap (λ g. Some (name_of g)) (signed_is n s is)

  pub names_over_rows : names ≡ names_over rows tasks
  names_over_rows = over_all rows tasks (λ s. name_of s.sig) names are.long named_at

  -- unihashes that are worked out task by task are those from scratch
  pub unihashes_over_rows : unihashes ≡ unihashes_over rows tasks
  unihashes_over_rows = over_all rows tasks (λ s. uni rows (name_of s.sig)) unihashes are.wide (λ n s is. are.hashed n (name_of s.sig) (named_at n s is))

pub names_are_over : NamesAreOver
names_are_over rows tasks names unihashes ordered are = names_over_rows rows tasks names unihashes ordered are
