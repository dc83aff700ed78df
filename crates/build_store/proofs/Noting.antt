-- What is noted as a publication is opened.
use Rattle.std.proofs.Common.{◌≡◌, ◌∙◌, sym, ap, subst, refl, ℕ, ◌+◌, ◌<◌, zero, suc, ◌⊎◌, inl, inr, List, [], ◌∷◌, ◌++◌, length, get_or, Option, Some, None, arith}
use Rattle.std.specs.Option.{is_some}
use Rattle.std.specs.List.{AllByRecursion}
use Rattle.tree_model.specs.declared.entry.Entry.{Entry}
use Rattle.tree_model.specs.declared.hash.Hash.{Hash}
use Rattle.tree_model.specs.Path.{inside}
use Rattle.tree_model.specs.Tree.{IsTree, entry_at}
use Rattle.outside_traits.specs.Store.{IsOpen, Store}
use Rattle.outside_traits.proofs.Folders.{under_same}
use Rattle.outside_traits.proofs.Laid.{found_in, tree_found}
use Rattle.meta_model.specs.CleanBuild.{Entries}
use Rattle.store_model.specs.Available.{object_folder}
use Rattle.store_model.specs.Publication.{work_at, Publication}
use Rattle.store_opening.proofs.Areas.{differ, heads_differ}
use Rattle.build_store.specs.Items.{IsDue, IsItemOf, IsLaidBut, IsRight, IsWithin, IsWriting, Item, RemovalsFirst, path_of, removal, writing}
use Rattle.build_store.specs.Noting.{AreListed, IsListed, items_for, items_with, removal_if, removals, writings}
use Rattle.build_store.specs.Pieces.{NotedIsHalf}

-- ---- lists of items

pub due_front : (xs ys : List Item) (q : List ℕ) → IsDue xs q → IsDue (xs ++ ys) q
due_front [] ys q due = absurd due
due_front (x ∷ xs) ys q (inl same) = inl same
due_front (x ∷ xs) ys q (inr due) = inr (due_front xs ys q due)

pub due_behind : (xs ys : List Item) (q : List ℕ) → IsDue ys q → IsDue (xs ++ ys) q
due_behind [] ys q due = due
due_behind (x ∷ xs) ys q due = inr (due_behind xs ys q due)

all_joined : {A : Type 0} (P : A → Type 0) (xs ys : List A) → AllByRecursion P xs → AllByRecursion P ys → AllByRecursion P (xs ++ ys)
all_joined P [] ys a b = b
all_joined P (x ∷ xs) ys a b = (a.0, all_joined P xs ys a.1 b)

removal_of : (folder : List ℕ) (path : List ℕ) (o : Option Entry) (items : List Item) (q : List ℕ) → IsDue items q → IsDue (removal_if path o items) q
removal_of folder path None items q due = inr due
removal_of folder path (Some e) items q due = due

removal_due : (folder : List ℕ) (tree : Entries) (found : List (List ℕ)) (path : List ℕ) → IsListed found path → entry_at tree path ≡ None → IsDue (removals folder tree found) (inside folder path)
removal_due folder tree [] path listed none = absurd listed
removal_due folder tree (one ∷ found) path (inr listed) none = removal_of folder (inside folder one) (entry_at tree one) (removals folder tree found) (inside folder path) (removal_due folder tree found path listed none)
removal_due folder tree (one ∷ found) path (inl same) none = by (entry_at tree one) (ap (entry_at tree) same ∙ none)
  where
    by : (o : Option Entry) → o ≡ None → IsDue (removal_if (inside folder one) o (removals folder tree found)) (inside folder path)
    by None e = inl (ap (inside folder) same)
    by (Some x) e = absurd (let k : Some x ≡ None = e in cc)

writing_due : (folder : List ℕ) (tree : Entries) (k : ℕ) (d : List ℕ × Entry) → k < length tree → IsDue (writings folder tree) (inside folder (get_or tree k d).0)
writing_due folder [] k d lt = absurd (omega arith)
writing_due folder (x ∷ xs) zero d lt = inl refl
writing_due folder (x ∷ xs) (suc k) d lt = inr (writing_due folder xs k d (omega arith))

-- what isn't right is due
laid : (folder : List ℕ) (tree : Entries) (found : List (List ℕ)) (items : List Item) (held : Store) → IsOpen folder held → AreListed folder found held
    → ((q : List ℕ) → IsDue (removals folder tree found) q → IsDue items q) → ((q : List ℕ) → IsDue (writings folder tree) q → IsDue items q) → IsLaidBut folder tree items held
laid folder tree found items held outside listed front behind = record {
  entries = λ path. by path (entry_at tree path) refl (held (inside folder path)) refl;
  outside = outside;
}
  where
    by : (path : List ℕ) (o : Option Entry) → entry_at tree path ≡ o → (h : Option Entry) → held (inside folder path) ≡ h → (held (inside folder path) ≡ entry_at tree path) ⊎ IsDue items (inside folder path)
    by path (Some e) is h at =
        let d : List ℕ × Entry = (path, e) in
        let w = found_in tree path (ap is_some is) in
        inr (behind (inside folder path) (subst (λ (l : List ℕ). IsDue (writings folder tree) (inside folder l)) (w.2 d) (writing_due folder tree w.0 d w.1)))
    by path None is None at = inl (at ∙ sym is)
    by path None is (Some x) at = inr (front (inside folder path) (removal_due folder tree found path (listed path (ap is_some at)) is))

-- ---- each item is right

module _ (p : Publication) (folder : List ℕ) (within : (path : List ℕ) → IsWithin p (inside folder path)) (own : (item : Item) → IsRight folder p.tree item → (path : List ℕ) → path_of item ≡ inside folder path → IsItemOf p item) where
  right_removal : (one : List ℕ) → entry_at p.tree one ≡ None → IsRight folder p.tree (removal (inside folder one))
  right_removal one none path same = sym (ap (entry_at p.tree) (sym (under_same folder one path same)) ∙ none)

  removals_right : (found : List (List ℕ)) → AllByRecursion (IsItemOf p) (removals folder p.tree found)
  removals_right [] = tt
  removals_right (one ∷ found) = by (entry_at p.tree one) refl (removals_right found)
    where
      by : (o : Option Entry) → entry_at p.tree one ≡ o → AllByRecursion (IsItemOf p) (removals folder p.tree found) → AllByRecursion (IsItemOf p) (removal_if (inside folder one) o (removals folder p.tree found))
      by None e others = (own (removal (inside folder one)) (right_removal one e) one refl, others)
      by (Some x) e others = others

  writings_from : (is_tree : IsTree p.tree) (k : ℕ) (rest : Entries) → ((i : ℕ) (d : List ℕ × Entry) → i < length rest → (k + i < length p.tree) × (get_or rest i d ≡ get_or p.tree (k + i) d)) → AllByRecursion (IsItemOf p) (writings folder rest)
  writings_from is_tree k [] same = tt
  writings_from is_tree k (x ∷ rest) same = (
    own (writing (inside folder x.0) x.1) (λ path at. right path (under_same folder x.0 path at)) x.0 refl,
    writings_from is_tree (k + 1) rest (λ i d lt. let s = same (suc i) d (omega (arith, lt)) in (let a = s.0 in omega (arith, a), s.1 ∙ ap (λ (n : ℕ). get_or p.tree n d) (omega arith))),
  )
    where
      right : (path : List ℕ) → x.0 ≡ path → Some x.1 ≡ entry_at p.tree path
      right path at =
          let s = same 0 x (omega arith) in
          let is : x ≡ get_or p.tree (k + 0) x = s.1 in
          sym (ap (entry_at p.tree) (sym at ∙ ap (λ (e : List ℕ × Entry). e.0) is) ∙ tree_found p.tree (k + 0) x is_tree s.0 ∙ ap (λ (e : List ℕ × Entry). Some e.1) (sym is))

  writings_right : IsTree p.tree → AllByRecursion (IsItemOf p) (writings folder p.tree)
  writings_right is_tree = writings_from is_tree 0 p.tree (λ i d lt. (omega (arith, lt), ap (λ (n : ℕ). get_or p.tree n d) (omega arith)))

-- ---- the order

writings_write : (folder : List ℕ) (tree : Entries) → AllByRecursion IsWriting (writings folder tree)
writings_write folder [] = tt
writings_write folder (x ∷ xs) = (tt, writings_write folder xs)

first_writings : (items : List Item) → AllByRecursion IsWriting items → RemovalsFirst items
first_writings [] all = tt
first_writings (removal path ∷ items) all = absurd all.0
first_writings (writing path entry ∷ items) all = all.1

removals_first : (folder : List ℕ) (tree : Entries) (found : List (List ℕ)) (items : List Item) → RemovalsFirst items → RemovalsFirst (removals folder tree found ++ items)
removals_first folder tree [] items order = order
removals_first folder tree (one ∷ found) items order = by (entry_at tree one) (removals_first folder tree found items order)
  where
    by : (o : Option Entry) → RemovalsFirst (removals folder tree found ++ items) → RemovalsFirst (removal_if (inside folder one) o (removals folder tree found) ++ items)
    by None rest = rest
    by (Some x) rest = rest

-- ---- together

module _ (p : Publication) where
  own_work : (item : Item) → IsRight (work_at p.folder) p.tree item → (path : List ℕ) → path_of item ≡ inside (work_at p.folder) path → IsItemOf p item
  own_work item right path at = record {
    within = inl (path, at);
    work = right;
    shared = λ unihash is other same. absurd (heads_differ (differ 119 111 refl) (sym at ∙ same));
  }

  own_object : (unihash : Hash) → p.object ≡ Some unihash → (item : Item) → IsRight (object_folder unihash) p.tree item → (path : List ℕ) → path_of item ≡ inside (object_folder unihash) path → IsItemOf p item
  own_object unihash is item right path at = record {
    within = inr (unihash, is, (path, at));
    work = λ other same. absurd (heads_differ (differ 111 119 refl) (sym at ∙ same));
    shared = λ other is'. let k : Some unihash ≡ Some other = sym is ∙ is' in let same : unihash ≡ other = cc in subst (λ (u : Hash). IsRight (object_folder u) p.tree item) same right;
  }

  within_work : (path : List ℕ) → IsWithin p (inside (work_at p.folder) path)
  within_work path = inl (path, refl)

  within_object : (unihash : Hash) → p.object ≡ Some unihash → (path : List ℕ) → IsWithin p (inside (object_folder unihash) path)
  within_object unihash is path = inr (unihash, is, (path, refl))

pub noted_is_half : NotedIsHalf
noted_is_half p found shared a is_tree unstamped outside listed object = record {
  unstamped = unstamped;
  items = all_joined (IsItemOf p) (removals (work_at p.folder) p.tree found) (items_with p shared p.object) (removals_right p (work_at p.folder) (within_work p) (own_work p) found) (items_right p.object refl);
  order = removals_first (work_at p.folder) p.tree found (items_with p shared p.object) (order p.object);
  work = laid (work_at p.folder) p.tree found (items_for p found shared) a.held outside listed
      (λ q due. due_front (removals (work_at p.folder) p.tree found) (items_with p shared p.object) q due)
      (λ q due. due_behind (removals (work_at p.folder) p.tree found) (items_with p shared p.object) q (work_due p.object q due));
  shared = λ unihash is. laid (object_folder unihash) p.tree shared (items_for p found shared) a.held (object unihash is).0 (object unihash is).1
      (λ q due. due_behind (removals (work_at p.folder) p.tree found) (items_with p shared p.object) q (subst (λ (o : Option Hash). IsDue (items_with p shared o) q) (sym is) (due_front (removals (object_folder unihash) p.tree shared) (writings (work_at p.folder) p.tree ++ writings (object_folder unihash) p.tree) q due)))
      (λ q due. due_behind (removals (work_at p.folder) p.tree found) (items_with p shared p.object) q (subst (λ (o : Option Hash). IsDue (items_with p shared o) q) (sym is)
      (due_behind (removals (object_folder unihash) p.tree shared) (writings (work_at p.folder) p.tree ++ writings (object_folder unihash) p.tree) q (due_behind (writings (work_at p.folder) p.tree) (writings (object_folder unihash) p.tree) q due))));
}
  where
    items_right : (o : Option Hash) → p.object ≡ o → AllByRecursion (IsItemOf p) (items_with p shared o)
    items_right None is = writings_right p (work_at p.folder) (within_work p) (own_work p) is_tree
    items_right (Some unihash) is =
        all_joined (IsItemOf p) (removals (object_folder unihash) p.tree shared) (writings (work_at p.folder) p.tree ++ writings (object_folder unihash) p.tree)
        (removals_right p (object_folder unihash) (within_object p unihash is) (own_object p unihash is) shared)
        (all_joined (IsItemOf p) (writings (work_at p.folder) p.tree) (writings (object_folder unihash) p.tree)
        (writings_right p (work_at p.folder) (within_work p) (own_work p) is_tree)
        (writings_right p (object_folder unihash) (within_object p unihash is) (own_object p unihash is) is_tree))

    order : (o : Option Hash) → RemovalsFirst (items_with p shared o)
    order None = first_writings (writings (work_at p.folder) p.tree) (writings_write (work_at p.folder) p.tree)
    order (Some unihash) = removals_first (object_folder unihash) p.tree shared (writings (work_at p.folder) p.tree ++ writings (object_folder unihash) p.tree)
        (first_writings (writings (work_at p.folder) p.tree ++ writings (object_folder unihash) p.tree)
        (all_joined IsWriting (writings (work_at p.folder) p.tree) (writings (object_folder unihash) p.tree) (writings_write (work_at p.folder) p.tree) (writings_write (object_folder unihash) p.tree)))

    work_due : (o : Option Hash) (q : List ℕ) → IsDue (writings (work_at p.folder) p.tree) q → IsDue (items_with p shared o) q
    work_due None q due = due
    work_due (Some unihash) q due = due_behind (removals (object_folder unihash) p.tree shared) (writings (work_at p.folder) p.tree ++ writings (object_folder unihash) p.tree) q (due_front (writings (work_at p.folder) p.tree) (writings (object_folder unihash) p.tree) q due)
