-- The steps of a publication.
use Rattle.std.proofs.Common.{◌≡◌, ◌∙◌, sym, ap, subst, refl, ℕ, ◌<◌, ◌⊎◌, inl, inr, List, [], ◌∷◌, ◌++◌, length, get_or, Some, None, append_assoc}
use Rattle.std.specs.Prelude.{IsSome}
use Rattle.std.specs.Option.{is_some}
use Rattle.std.specs.List.{AllByRecursion}
use Rattle.std.proofs.lemmas.Bool.{false≢true}
use Rattle.tree_model.specs.declared.entry.Entry.{Entry}
use Rattle.tree_model.specs.declared.entry.Entry.TheVariants.{Link}
use Rattle.tree_model.specs.declared.hash.Hash.{Hash}
use Rattle.tree_model.specs.Path.{IsBelow, inside}
use Rattle.tree_model.specs.Tree.{IsTree, entry_at}
use Rattle.outside_traits.specs.Store.{HoldsTree, IsAround, IsFree, Store}
use Rattle.outside_traits.proofs.Folders.{above_under}
use Rattle.outside_traits.proofs.Held.{none_unless}
use Rattle.outside_traits.proofs.Laid.{found_in, tree_level}
use Rattle.outside_traits.proofs.Puts.{path_cases}
use Rattle.outside_traits.proofs.Runs.{each_now}
use Rattle.meta_model.specs.CleanBuild.{Entries}
use Rattle.store_model.specs.Available.{object_folder}
use Rattle.store_model.specs.Publication.{stamp_at, work_at, Publication}
use Rattle.store_opening.proofs.Areas.{differ}
use Rattle.build_store.specs.Items.{Does, DoesItem, IsDue, IsItemOf, IsLaidBut, IsRight, IsWithin, IsWriting, Item, RemovalsFirst, path_of, removal, writing}
use Rattle.build_store.specs.Pieces.{MayBeWritten, StepGoesOn, WholeAtLast}
use Rattle.build_store.proofs.Around.{within_object, within_work, out_by_first}
use Rattle.build_store.proofs.Piecing.{works_at}

-- ---- lists

pub all_front : {A : Type 0} (P : A → Type 0) (xs ys : List A) → AllByRecursion P (xs ++ ys) → AllByRecursion P xs
all_front P [] ys all = tt
all_front P (x ∷ xs) ys all = (all.0, all_front P xs ys all.1)

all_rest : {A : Type 0} (P : A → Type 0) (xs ys : List A) → AllByRecursion P (xs ++ ys) → AllByRecursion P ys
all_rest P [] ys all = all
all_rest P (x ∷ xs) ys all = all_rest P xs ys all.1

writings_only : (items : List Item) → AllByRecursion IsWriting items → RemovalsFirst items
writings_only [] all = tt
writings_only (removal path ∷ items) all = absurd all.0
writings_only (writing path entry ∷ items) all = all.1

order_rest : (done left : List Item) → RemovalsFirst (done ++ left) → RemovalsFirst left
order_rest [] left order = order
order_rest (removal path ∷ done) left order = order_rest done left order
order_rest (writing path entry ∷ done) left order = writings_only left (all_rest IsWriting done left order)

-- ---- one item is done

module _ (folder : List ℕ) (tree : Entries) (item : Item) (left : List Item) (old new : Store) (right : IsRight folder tree item) (out : IsAround folder (path_of item) → ⊥) (does : DoesItem item old new) where
  laid_step : IsLaidBut folder tree (item ∷ left) old → IsLaidBut folder tree left new
  laid_step was = record {
    entries = λ path. elim (path_cases (inside folder path) (path_of item)) [
      | inl same ↦ inl (ap new same ∙ does.made ∙ right path (sym same))
      | inr ne ↦ elim (was.entries path) [
        | inl e ↦ inl (does.changes.others (inside folder path) ne ∙ e)
        | inr due ↦ elim due [
          | inl this ↦ absurd (ne (sym this))
          | inr later ↦ inr later
        ]
      ]
    ];
    outside = record {
      at = does.changes.others folder (λ same. out (inl (sym same))) ∙ was.outside.at;
      above = λ q up. does.changes.others q (λ same. out (inr (subst (λ (r : List ℕ). IsBelow r folder) same up))) ∙ was.outside.above q up;
    };
  }

laid_on : (folder : List ℕ) (tree : Entries) (done left : List Item) (old new : Store) → AllByRecursion (IsRight folder tree) done → AllByRecursion (λ i. IsAround folder (path_of i) → ⊥) done → Does done old new → IsLaidBut folder tree (done ++ left) old → IsLaidBut folder tree left new
laid_on folder tree [] left old new right out same was = subst (IsLaidBut folder tree left) (sym same) was
laid_on folder tree (item ∷ done) left old new right out does was =
    laid_on folder tree done left does.0 new right.1 out.1 does.2 (laid_step folder tree item (done ++ left) old does.0 right.0 out.0 does.1 was)

right_work : (p : Publication) (items : List Item) → AllByRecursion (IsItemOf p) items → AllByRecursion (IsRight (work_at p.folder) p.tree) items
right_work p [] all = tt
right_work p (item ∷ items) all = (all.0.work, right_work p items all.1)

out_work : (p : Publication) (items : List Item) → AllByRecursion (IsItemOf p) items → AllByRecursion (λ i. IsAround (work_at p.folder) (path_of i) → ⊥) items
out_work p [] all = tt
out_work p (item ∷ items) all = (within_work p (path_of item) all.0.within, out_work p items all.1)

right_object : (p : Publication) (unihash : Hash) → p.object ≡ Some unihash → (items : List Item) → AllByRecursion (IsItemOf p) items → AllByRecursion (IsRight (object_folder unihash) p.tree) items
right_object p unihash is [] all = tt
right_object p unihash is (item ∷ items) all = (all.0.shared unihash is, right_object p unihash is items all.1)

out_object : (p : Publication) (unihash : Hash) → p.object ≡ Some unihash → (items : List Item) → AllByRecursion (IsItemOf p) items → AllByRecursion (λ i. IsAround (object_folder unihash) (path_of i) → ⊥) items
out_object p unihash is [] all = tt
out_object p unihash is (item ∷ items) all = (within_object p unihash is (path_of item) all.0.within, out_object p unihash is items all.1)

pub step_goes_on : StepGoesOn
step_goes_on p done left a b half does run =
    let mine = all_front (IsItemOf p) done left half.items in
    record {
      unstamped = each_now (λ i. i (stamp_at p.folder) ≡ None) (λ i. i (stamp_at p.folder) ≡ None) half.unstamped run (λ i j none works.
          works_at p done a.held i j mine works (stamp_at p.folder) (out_by_first p 115 (116 ∷ 97 ∷ 109 ∷ 112 ∷ 47 ∷ p.folder) (stamp_at p.folder) refl (differ 115 119 refl) (differ 115 111 refl)) ∙ none);
      items = all_rest (IsItemOf p) done left half.items;
      order = order_rest done left half.order;
      work = laid_on (work_at p.folder) p.tree done left a.held b.held (right_work p done mine) (out_work p done mine) does half.work;
      shared = λ unihash is. laid_on (object_folder unihash) p.tree done left a.held b.held (right_object p unihash is done mine) (out_object p unihash is done mine) does (half.shared unihash is);
    }

-- ---- the end

laid_whole : (folder : List ℕ) (tree : Entries) (held : Store) → IsLaidBut folder tree [] held → HoldsTree folder tree held
laid_whole folder tree held was = record { entries = λ path. elim (was.entries path) [ inl e ↦ e | inr due ↦ absurd due ]; outside = was.outside }

pub whole_at_last : WholeAtLast
whole_at_last p a half = (laid_whole (work_at p.folder) p.tree a.held half.work, λ unihash is. laid_whole (object_folder unihash) p.tree a.held (half.shared unihash is))

-- ---- what may be written

-- beside a path of a tree, above it and below it the tree has nothing
lone : (tree : Entries) (r s : List ℕ) → IsTree tree → IsSome (entry_at tree r) → IsBelow s r ⊎ IsBelow r s → entry_at tree s ≡ None
lone tree r s is_tree some near = none_unless (entry_at tree s) (λ here. by (found_in tree r some) (found_in tree s here) near)
  where
    d : List ℕ × Entry
    d = ([], Link [])

    by : (k : ℕ) × (k < length tree) × ((d : List ℕ × Entry) → (get_or tree k d).0 ≡ r) → (k : ℕ) × (k < length tree) × ((d : List ℕ × Entry) → (get_or tree k d).0 ≡ s) → IsBelow s r ⊎ IsBelow r s → ⊥
    by at at' (inl up) = tree_level tree at'.0 at.0 d is_tree at'.1 at.1 (subst (λ (x : List ℕ). IsBelow x (get_or tree at.0 d).0) (sym (at'.2 d)) (subst (IsBelow s) (sym (at.2 d)) up))
    by at at' (inr down) = tree_level tree at.0 at'.0 d is_tree at.1 at'.1 (subst (λ (x : List ℕ). IsBelow x (get_or tree at'.0 d).0) (sym (at.2 d)) (subst (IsBelow r) (sym (at'.2 d)) down))

-- what is due where only writings are left is in the tree
due_some : (folder : List ℕ) (tree : Entries) (items : List Item) (s : List ℕ) → AllByRecursion (IsRight folder tree) items → AllByRecursion IsWriting items → IsDue items (inside folder s) → IsSome (entry_at tree s)
due_some folder tree [] s right only due = absurd due
due_some folder tree (removal path ∷ items) s right only due = absurd only.0
due_some folder tree (writing path entry ∷ items) s right only (inl same) = subst IsSome (right.0 s same) refl
due_some folder tree (writing path entry ∷ items) s right only (inr due) = due_some folder tree items s right.1 only.1 due

module _ (folder : List ℕ) (tree : Entries) (items : List Item) (held : Store) (is_tree : IsTree tree) (right : AllByRecursion (IsRight folder tree) items) (only : AllByRecursion IsWriting items) (was : IsLaidBut folder tree items held) where
  free_in : (r : List ℕ) → IsSome (entry_at tree r) → IsFree held (inside folder r)
  free_in r some = record {
    above = λ q up. by_above q (above_under folder r q up);
    below = λ q down. ap held (down.1 ∙ append_assoc folder (47 ∷ r) (47 ∷ down.0)) ∙ nothing (inside r down.0) (lone tree r (inside r down.0) is_tree some (inr (down.0, refl)));
  }
    where
      nothing : (s : List ℕ) → entry_at tree s ≡ None → held (inside folder s) ≡ None
      nothing s none = elim (was.entries s) [
        | inl e ↦ e ∙ none
        | inr due ↦ absurd (false≢true (sym (ap is_some none) ∙ due_some folder tree items s right only due))
      ]

      by_above : (q : List ℕ) → IsBelow q folder ⊎ ((q ≡ folder) ⊎ ((s : List ℕ) × (q ≡ inside folder s) × IsBelow s r)) → held q ≡ None
      by_above q (inl up) = was.outside.above q up
      by_above q (inr (inl at)) = ap held at ∙ was.outside.at
      by_above q (inr (inr w)) = ap held w.1 ∙ nothing w.0 (lone tree r w.0 is_tree some (inl w.2))

pub may_be_written : MayBeWritten
may_be_written p path entry left a is_tree half = by half.items.0.within
  where
    all : List Item
    all = writing path entry ∷ left

    by : IsWithin p path → IsFree a.held path
    by (inl in_it) = subst (IsFree a.held) (sym in_it.1) (free_in (work_at p.folder) p.tree (writing path entry ∷ left) a.held is_tree (right_work p (writing path entry ∷ left) half.items) (tt, half.order) half.work in_it.0
        (subst IsSome (half.items.0.work in_it.0 in_it.1) refl))
    by (inr w) = subst (IsFree a.held) (sym w.2.1) (free_in (object_folder w.0) p.tree (writing path entry ∷ left) a.held is_tree (right_object p w.0 w.1 (writing path entry ∷ left) half.items) (tt, half.order) (half.shared w.0 w.1) w.2.0
        (subst IsSome (half.items.0.shared w.0 w.1 w.2.0 w.2.1) refl))
