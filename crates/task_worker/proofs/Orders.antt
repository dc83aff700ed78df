-- The orders in which needed tasks are laid.
use Rattle.std.proofs.Common.{◌≡◌, ◌∙◌, sym, ap, refl, ℕ, Bool, true, false, not, List, filter}
use Rattle.std.specs.Prelude.{nat_eq, nat_lt, ◌||◌, ◌&&◌}
use Rattle.std.specs.Cmp.{IsStrictWeakOrder, IsTotalOrder}
use Rattle.std.specs.Cmp.Lexicographic.{slice_cmp}
use Rattle.std.specs.Ordering.{is_lt, nat_cmp, ordering_then}
use Rattle.std.specs.List.Sorted.{IsSortedBy, IsStableBy}
use Rattle.std.specs.declared.cmp.Ordering.{Ordering}
use Rattle.std.proofs.lemmas.Cmp.{nat_cmp_total, nat_list_cmp_total, on_total, then_total}
use Rattle.std.proofs.lemmas.List.Sorted.{ranks_by}
use Rattle.meta_model.specs.InOrder.{in_order}
use Rattle.meta_model.specs.Layout.{Needed, by_depth, by_name, comes_first, is_of}
use Rattle.store_model.proofs.Ordered.{ordered_map}
use Rattle.sig_gen.proofs.Sorting.{ordered_filter, sorted_is_ordered}
use Rattle.task_worker.specs.declared.parts.Part.{Part}
use Rattle.task_worker.specs.Work.{depth_cmp, name_cmp, part_needed, parts_needed}

pub depth_total : IsTotalOrder depth_cmp
depth_total = then_total (on_total (λ (n : Needed). n.depth) nat_cmp_total) (on_total (λ (n : Needed). n.task) nat_list_cmp_total)

pub name_total : IsTotalOrder name_cmp
name_total = then_total (on_total (λ (n : Needed). n.pn) nat_list_cmp_total) (on_total (λ (n : Needed). n.task) nat_list_cmp_total)

-- two tests that say the same give one order
ordered_by : {A : Type 0} (f g : A → A → Bool) → ((a b : A) → f a b ≡ g a b) → (xs : List A) → in_order f xs ≡ in_order g xs
ordered_by f g same xs = ap (λ h. in_order h xs) (λ i a b. same a b i)

first_by : (x y : ℕ) (o : Ordering) → is_lt (ordering_then (nat_cmp x y) o) ≡ (nat_lt x y || (nat_eq x y && is_lt o))
first_by x y o = by (nat_lt x y) (nat_eq x y) refl refl
  where
    by : (a b : Bool) → nat_lt x y ≡ a → nat_eq x y ≡ b → is_lt (ordering_then (nat_cmp x y) o) ≡ (nat_lt x y || (nat_eq x y && is_lt o))
    by true b e f = simp e
    by false true e f = simp (e, f)
    by false false e f = simp (e, f)

module _ (cmp : Needed → Needed → Ordering) (total : IsTotalOrder cmp) where
  abbrev pub is_before : Part → Part → Bool
  is_before a b = is_lt (cmp (part_needed a) (part_needed b))

  pub part_order : IsStrictWeakOrder is_before
  part_order = ranks_by total part_needed

  -- what is sorted by a comparison of needed tasks
  pub sorted_by : (xs ys : List Part) → IsSortedBy is_before ys → IsStableBy is_before xs ys → parts_needed ys ≡ in_order (λ a b. is_lt (cmp a b)) (parts_needed xs)
  sorted_by xs ys up same = ap parts_needed (sorted_is_ordered is_before part_order xs ys up same) ∙ sym (ordered_map part_needed (λ a b. is_lt (cmp a b)) xs)

  pub kept_order : (p : Needed → Bool) (xs ys : List Part) (needed : List Needed) → parts_needed xs ≡ filter p needed → IsSortedBy is_before ys → IsStableBy is_before xs ys → parts_needed ys ≡ filter p (in_order (λ a b. is_lt (cmp a b)) needed)
  kept_order p xs ys needed is up same =
      sorted_by xs ys up same ∙ ap (in_order (λ a b. is_lt (cmp a b))) is
      ∙ sym (ordered_filter (λ a b. is_lt (cmp a b)) (ranks_by total (λ (n : Needed). n)) p needed)

pub own_order : (pn : List ℕ) (xs ys : List Part) (needed : List Needed) → parts_needed xs ≡ filter (is_of pn) needed → IsSortedBy (is_before depth_cmp depth_total) ys → IsStableBy (is_before depth_cmp depth_total) xs ys → parts_needed ys ≡ filter (is_of pn) (by_depth needed)
own_order pn xs ys needed is up same =
    kept_order depth_cmp depth_total (is_of pn) xs ys needed is up same
    ∙ ap (filter (is_of pn)) (ordered_by (λ a b. is_lt (depth_cmp a b)) comes_first (λ a b. first_by a.depth b.depth (slice_cmp nat_cmp a.task b.task)) needed)

pub other_order : (pn : List ℕ) (xs ys : List Part) (needed : List Needed) → parts_needed xs ≡ filter (λ n. not (is_of pn n)) needed → IsSortedBy (is_before name_cmp name_total) ys → IsStableBy (is_before name_cmp name_total) xs ys → parts_needed ys ≡ filter (λ n. not (is_of pn n)) (by_name needed)
other_order pn xs ys needed is up same = kept_order name_cmp name_total (λ n. not (is_of pn n)) xs ys needed is up same
