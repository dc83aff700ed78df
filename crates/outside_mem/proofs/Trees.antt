-- A tree as what a disk holds.
use Rattle.std.proofs.Common.{◌≡◌, inl, inr, ℕ, suc, ◌<◌, ◌≤◌, List, [], ◌∷◌, length, get_or, Option, None, sym, ◌∙◌, ap, subst, arith, AllPairs}
use Rattle.std.specs.Prelude.{IsSome}
use Rattle.std.specs.Option.{is_some}
use Rattle.std.specs.Ordering.{nat_cmp}
use Rattle.std.specs.declared.cmp.Ordering.TheVariants.{Less}
use Rattle.std.specs.Cmp.Lexicographic.{slice_cmp}
use Rattle.std.specs.List.{AllByRecursion}
use Rattle.std.specs.List.Sorted.{IsStrictlySortedBy}
use Rattle.std.proofs.lemmas.Bool.{false≢true, cases_lt}
use Rattle.tree_model.specs.declared.entry.Entry.{Entry}
use Rattle.tree_model.specs.declared.entry.Entry.TheVariants.{Link}
use Rattle.tree_model.specs.declared.tree.Size.{Size}
use Rattle.tree_model.specs.Path.{IsClean, IsBelow, IsBefore}
use Rattle.tree_model.specs.Tree as trees
use Rattle.tree_model.specs.Tree.{IsTree, HasRoom, entry_at}
use Rattle.tree_model.specs.Size.{Exceeds}
use Rattle.tree_model.proofs.TreeLemmas.{place_held}
use Rattle.outside_traits.specs.Bench.{Entries}
use Rattle.outside_traits.specs.Store.{IsListing}
use Rattle.outside_traits.specs.Story.{IsContent}
use Rattle.outside_traits.proofs.Laid.{tree_level}

-- any entry
any : List ℕ × Entry
any = ([], Link [])

-- nothing isn't something
none_some : {o : Option Entry} → o ≡ None → IsSome o → ⊥
none_some none held = false≢true (sym (ap is_some none) ∙ held)

-- what a tree holds is what a disk may hold
pub tree_content : (tree : Entries) → IsTree tree → IsContent (entry_at tree)
tree_content tree is_tree = record { treelike = treelike; clean = clean }
  where
    treelike : (p q : List ℕ) → IsBelow p q → IsSome (entry_at tree p) → IsSome (entry_at tree q) → ⊥
    treelike p q below p_held q_held =
        let i = place_held tree p p_held in
        let j = place_held tree q q_held in
        tree_level tree i.0 j.0 any is_tree i.1.0 j.1.0
        (subst (λ (a : List ℕ). IsBelow a (get_or tree j.0 any).0) (sym (i.1.1 any)) (subst (λ (b : List ℕ). IsBelow p b) (sym (j.1.1 any)) below))

    clean : (path : List ℕ) → IsSome (entry_at tree path) → IsClean path
    clean path held = let i = place_held tree path held in subst IsClean (i.1.1 any) (is_tree.clean i.0 any i.1.0)

-- there is room where something is held
pub room_where_held : (tree : Entries) (p : List ℕ) → IsTree tree → IsSome (entry_at tree p) → HasRoom (entry_at tree) p × IsClean p
room_where_held tree p is_tree some = let content = tree_content tree is_tree in
    (record { above = λ q held up. content.treelike q p up held some; below = λ q held down. content.treelike p q down some held }, content.clean p some)

-- each element, by its index
each_by_index : (P : List ℕ → Type 0) (ys : List (List ℕ)) → ((k : ℕ) (d : List ℕ) → k < length ys → P (get_or ys k d)) → AllByRecursion P ys
each_by_index P [] all = tt
each_by_index P (y ∷ ys) all = (all 0 [] (omega arith), each_by_index P ys (λ k d lt. all (suc k) d (omega (arith, lt))))

-- paths of which each comes before each later one are in order
strictly : (paths : List (List ℕ)) → AllPairs IsBefore paths → IsStrictlySortedBy (slice_cmp nat_cmp) paths
unfolding IsStrictlySortedBy
strictly [] all = tt
strictly (p ∷ paths) all =
    (each_by_index (λ q. slice_cmp nat_cmp p q ≡ Less) paths (λ k d lt. all 0 (suc k) d (omega arith) (omega (arith, lt))), strictly paths (λ i j d lt fits. all (suc i) (suc j) d (omega (arith, lt)) (omega (arith, fits))))

-- the listing of a tree is the listing of what it holds
pub listing_told : (prefix : List ℕ) (tree : Entries) (paths : List (List ℕ)) → trees.IsListing prefix (entry_at tree) paths → IsListing prefix (entry_at tree) paths
listing_told prefix tree paths listing = record { ascending = strictly paths listing.ascending; are_held = listing.are_held; all = listing.all }

-- a size that isn't within a limit exceeds it
pub exceeds : (size limit : Size) → ((Exceeds size limit → ⊥) → ⊥) → Exceeds size limit
exceeds size limit not_within = elim (cases_lt limit.entries size.entries) [
  | inl more ↦ inl more
  | inr few ↦ elim (cases_lt limit.largest size.largest) [
    | inl longer ↦ inr (inl longer)
    | inr short ↦ elim (cases_lt limit.bytes size.bytes) [
      | inl larger ↦ inr (inr larger)
      | inr small ↦ absurd (not_within (λ over. none_over few short small over))
    ]
  ]
]
  where
    none_over : size.entries ≤ limit.entries → size.largest ≤ limit.largest → size.bytes ≤ limit.bytes → Exceeds size limit → ⊥
    none_over few short small (inl more) = omega arith
    none_over few short small (inr (inl longer)) = omega arith
    none_over few short small (inr (inr larger)) = omega arith
