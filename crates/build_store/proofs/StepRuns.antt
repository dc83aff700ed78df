-- What the items of a step do.
use Rattle.std.proofs.Common.{◌≡◌, ◌∙◌, sym, ap, subst, refl, ℕ, zero, suc, ◌+◌, ◌<◌, ◌≤◌, inl, inr, ⊎_elim, List, [], ◌∷◌, ◌++◌, length, get_or, drop, take, Some, None, arith}
use Rattle.std.specs.List.{AllByRecursion}
use Rattle.tree_model.specs.declared.entry.Entry.{Entry}
use Rattle.tree_model.specs.Path.{inside}
use Rattle.outside_traits.specs.Passes.{EachNow, Passes, Same}
use Rattle.outside_traits.specs.Store.{ChangesAt, Store}
use Rattle.outside_traits.specs.Story.{IsSound, Story}
use Rattle.outside_traits.proofs.Calls.{same_so}
use Rattle.outside_traits.proofs.Images.{above-image, held-image}
use Rattle.outside_traits.proofs.Puts.{path_cases}
use Rattle.outside_traits.proofs.Runs.{passes_so, passes_then}
use Rattle.store_model.specs.Available.{object_folder}
use Rattle.store_model.specs.Publication.{stamp_at, work_at, Publication}
use Rattle.store_opening.specs.Paths.{IsLaidOut}
use Rattle.build_store.specs.Calls.{Works}
use Rattle.build_store.specs.Halves.{IsHalf}
use Rattle.build_store.specs.Items.{IsDue, IsItemOf, Item, makes, path_of, removal, writing}
use Rattle.build_store.specs.OpenOnes.{KeepsEntries}
use Rattle.build_store.specs.Phases.{Lays}
use Rattle.build_store.specs.Pieces.{IsPublishing}
use Rattle.build_store.proofs.Around.{due_within}
use Rattle.build_store.proofs.ItemPlaces.{next_item}
use Rattle.build_store.proofs.Noting.{due_behind, due_front}
use Rattle.build_store.proofs.Phasing.{laid_lays}
use Rattle.build_store.proofs.Piecing.{works_is_publishing}
use Rattle.build_store.proofs.Stepping.{step_goes_on}

-- a run over images that have the property
pub passes_from : {a b : Story} {R : Store → Store → Type 0} (P : Store → Type 0) (T : Store → Store → Type 0) → IsSound a → EachNow a P → Passes a b R → ((i j : Store) → P i → R i j → T i j) → Passes a b T
passes_from {a} {b} P T sound has run says = record {
  later = run.later;
  held = says a.held b.held (has a.held (held-image a sound)) run.held;
  now = λ i img. let w = run.now i img in (w.0, w.1, says w.0 i (has w.0 w.1) w.2);
  since = λ t i le left. ⊎_elim (λ past. inl past) (λ w. inr (w.0, w.1, says w.0 i (has w.0 w.1) w.2)) (run.since t i le left);
  above = λ k i le left. let w = run.above k i le left in (w.0, w.1, says w.0 i (has w.0 (above-image a sound k w.0 w.1)) w.2);
}

-- ---- one item

pub item_writes : (item : Item) (e : Entry) → makes item ≡ Some e → item ≡ writing (path_of item) e
item_writes (removal path) e is = absurd (let n : None ≡ Some e = is in cc)
item_writes (writing path entry) e is = let same : entry ≡ e = (let n : Some entry ≡ Some e = is in cc) in ap (writing path) same

works_one : (item : Item) (i j : Store) → ChangesAt (path_of item) i j → Works (item ∷ []) i j
works_one item i j change = record { others = λ q out. change.others q (λ same. out (inl (sym same))) }

pub does_one : (p : Publication) (item : Item) (left : List Item) (a b : Story) → IsHalf p (item ∷ left) a → Passes a b (ChangesAt (path_of item)) → b.held (path_of item) ≡ makes item → IsHalf p left b
does_one p item left a b half run made =
    step_goes_on p (item ∷ []) left a b half (b.held, record { changes = run.held; made = made }, refl) (passes_so (Works (item ∷ [])) run (works_one item))

pub works_next : (items : List Item) (k : ℕ) (d : Item) (a b : Story) → k < length items → Passes a b (ChangesAt (path_of (get_or items k d))) → Passes a b (Works (take 1 (drop k items)))
works_next items k d a b lt run =
    let item = get_or items k d in
    let done : take 1 (drop k items) ≡ item ∷ [] = ap (λ (l : List Item). take 1 l) (next_item items k d lt) in
    subst (λ (l : List Item). Passes a b (Works l)) (sym done) (passes_so (Works (item ∷ [])) run (works_one item))

pub half_next : (p : Publication) (items : List Item) (k : ℕ) (d : Item) (a b : Story) → k < length items → IsHalf p (drop k items) a → Passes a b (ChangesAt (path_of (get_or items k d))) → b.held (path_of (get_or items k d)) ≡ makes (get_or items k d) → IsHalf p (drop (k + 1) items) b
half_next p items k d a b lt half run made = does_one p (get_or items k d) (drop (k + 1) items) a b (subst (λ (l : List Item). IsHalf p l a) (next_item items k d lt) half) run made

-- the next item is right
pub item_next : (p : Publication) (items : List Item) (k : ℕ) (d : Item) (a : Story) → k < length items → IsHalf p (drop k items) a → IsItemOf p (get_or items k d)
item_next p items k d a lt half = (subst (AllByRecursion (IsItemOf p)) (next_item items k d lt) half.items).0

-- ---- what is held already

pub keeps_same : (p : Publication) (held i : Store) → KeepsEntries p held i i
keeps_same p held i = record { work = λ path e at is. refl; shared = λ unihash some path e at is. refl }

pub keeps_then : (p : Publication) {a b c : Story} → Passes a b (KeepsEntries p a.held) → Passes b c (KeepsEntries p b.held) → Passes a c (KeepsEntries p a.held)
keeps_then p {a} {b} {c} first second = passes_then (KeepsEntries p a.held) first second (λ i j r. r) (λ i j k r s. record {
  work = λ path e at is. s.work path e at (first.held.work path e at is ∙ is) ∙ r.work path e at is;
  shared = λ unihash some path e at is. s.shared unihash some path e at (first.held.shared unihash some path e at is ∙ is) ∙ r.shared unihash some path e at is;
})

keeps_item : (p : Publication) (item : Item) (held i j : Store) → IsItemOf p item → ChangesAt (path_of item) i j → ((e : Entry) → makes item ≡ Some e → held (path_of item) ≡ Some e → j (path_of item) ≡ i (path_of item)) → KeepsEntries p held i j
keeps_item p item held i j is change right = record {
  work = λ path e at here. by (inside (work_at p.folder) path) e here (λ same. is.work path same ∙ at);
  shared = λ unihash some path e at here. by (inside (object_folder unihash) path) e here (λ same. is.shared unihash some path same ∙ at);
}
  where
    by : (q : List ℕ) (e : Entry) → held q ≡ Some e → (path_of item ≡ q → makes item ≡ Some e) → j q ≡ i q
    by q e here own = elim (path_cases q (path_of item)) [
      | inl same ↦ ap j same ∙ right e (own (sym same)) (ap held (sym same) ∙ here) ∙ ap i (sym same)
      | inr ne ↦ change.others q ne
    ]

pub keeps_one : (p : Publication) (item : Item) (a b : Story) → IsItemOf p item → {R : Store → Store → Type 0} → Passes a b R → ((i j : Store) → R i j → ChangesAt (path_of item) i j) → ((i j : Store) → R i j → (e : Entry) → makes item ≡ Some e → a.held (path_of item) ≡ Some e → j (path_of item) ≡ i (path_of item)) → Passes a b (KeepsEntries p a.held)
keeps_one p item a b is run changes right = passes_so (KeepsEntries p a.held) run (λ i j r. keeps_item p item a.held i j is (changes i j r) (right i j r))

-- ---- several items

pub works_none : (items : List Item) (a b : Story) → Passes a b Same → Passes a b (Works items)
works_none items a b run = same_so (Works items) (λ i. record { others = λ q out. refl }) run

pub works_then : (xs ys : List Item) {a b c : Story} → Passes a b (Works xs) → Passes b c (Works ys) → Passes a c (Works (xs ++ ys))
works_then xs ys first second = passes_then (Works (xs ++ ys)) first second
    (λ i j r. record { others = λ q out. r.others q (λ due. out (due_front xs ys q due)) })
    (λ i j k r s. record { others = λ q out. s.others q (λ due. out (due_behind xs ys q due)) ∙ r.others q (λ due. out (due_front xs ys q due)) })

due_more : (n m : ℕ) → n ≤ m → (xs : List Item) (q : List ℕ) → IsDue (take n xs) q → IsDue (take m xs) q
due_more zero m le xs q due = absurd due
due_more (suc n) zero le xs q due = absurd (omega (arith, le))
due_more (suc n) (suc m) le [] q due = due
due_more (suc n) (suc m) le (x ∷ xs) q (inl same) = inl same
due_more (suc n) (suc m) le (x ∷ xs) q (inr due) = inr (due_more n m (omega (arith, le)) xs q due)

pub works_more : (n m : ℕ) → n ≤ m → (xs : List Item) {a b : Story} → Passes a b (Works (take n xs)) → Passes a b (Works (take m xs))
works_more n m le xs run = passes_so (Works (take m xs)) run (λ i j r. record { others = λ q out. r.others q (λ due. out (due_more n m le xs q due)) })

all_taken : {A : Type 0} (P : A → Type 0) (n : ℕ) (xs : List A) → AllByRecursion P xs → AllByRecursion P (take n xs)
all_taken P zero xs all = tt
all_taken P (suc n) [] all = tt
all_taken P (suc n) (x ∷ xs) all = (all.0, all_taken P n xs all.1)

pub works_publish : (p : Publication) (n : ℕ) (left : List Item) (a b : Story) → IsSound a → IsHalf p left a → Passes a b (Works (take n left)) → Passes a b (IsPublishing p a.held)
works_publish p n left a b sound half run = passes_from (λ i. i (stamp_at p.folder) ≡ None) (IsPublishing p a.held) sound half.unstamped run
    (λ i j none works. works_is_publishing p (take n left) a.held i j (all_taken (IsItemOf p) n left half.items) none works)

pub works_laid : (p : Publication) (n : ℕ) (left : List Item) (a b : Story) → IsHalf p left a → Passes a b (Works (take n left)) → IsLaidOut a.held → IsLaidOut b.held
works_laid p n left a b half run laid = laid_lays p.folder p.object a.held b.held lays laid
  where
    lays : Lays p.folder p.object a.held b.held
    lays = record {
      others = λ q work objects. run.held.others q (λ due. elim (due_within p (take n left) q (all_taken (IsItemOf p) n left half.items) due) [
        | inl in_it ↦ work.not_under in_it
        | inr w ↦ (objects w.0 w.1).not_under w.2
      ]);
    }
