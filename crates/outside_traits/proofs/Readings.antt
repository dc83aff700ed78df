-- What is read of a folder is a tree.
use Rattle.std.proofs.Common.{◌≡◌, inl, inr, ℕ, zero, suc, ◌+◌, ◌<◌, Bool, true, false, cond, List, [], ◌∷◌, ◌++◌, length, get_or, Option, Some, None, Result, Ok, Err, refl, sym, ◌∙◌, ap, subst, arith, append_assoc, length-append}
use Rattle.std.specs.Prelude.{Any, IfOk, IsSome, Contains, IsPermutation, find, option_map}
use Rattle.std.specs.Option.{is_some}
use Rattle.std.specs.Str.{bytes_eq}
use Rattle.std.specs.Ordering.{nat_cmp}
use Rattle.std.specs.declared.cmp.Ordering.{Ordering}
use Rattle.std.specs.declared.cmp.Ordering.TheVariants.{Less}
use Rattle.std.specs.Cmp.Lexicographic.{slice_cmp}
use Rattle.std.specs.List.{AllByRecursion}
use Rattle.std.specs.List.Sorted.{IsStrictlySortedBy}
use Rattle.std.proofs.lemmas.Bool.{false≢true, cases_eq}
use Rattle.std.proofs.lemmas.List.{get_or_default, get_or_append_left}
use Rattle.std.proofs.lemmas.List.Sorted.{Contains-permutation, IsPermutation-sym}
use Rattle.std.proofs.lemmas.Slice.Eq.{bytes_eq-Decides}
use Rattle.std.proofs.Math.Seq.{get_or-append_seam}
use Rattle.tree_model.specs.declared.entry.Entry.{Entry}
use Rattle.tree_model.specs.declared.entry.Entry.TheVariants.{Link}
use Rattle.tree_model.specs.declared.tree.Size.{Size}
use Rattle.tree_model.specs.declared.tree.TreeFault.{TreeFault}
use Rattle.tree_model.specs.declared.tree.TreeFault.TheVariants.{BadPath}
use Rattle.tree_model.specs.Path.{IsClean, IsBelow, BeginsWith, inside}
use Rattle.tree_model.specs.Refusal.{IsFirstBadPath, IsRefusal}
use Rattle.tree_model.specs.Tree.{IsTree, Precedes, entry_at}
use Rattle.tree_model.proofs.FolderLemmas.{clean_outside, cmp_inside}
use Rattle.tree_model.proofs.TreeLemmas.{at_place, ascending_from_tree, places_from_twice}
use Rattle.outside_traits.specs.Store.{Store, IsListing}
use Rattle.outside_traits.specs.Story.{IsContent}
use Rattle.outside_traits.specs.Reading.{IsReading, IsWithin, Stands}
use Rattle.outside_traits.proofs.Folders.{under_same}
use Rattle.outside_traits.proofs.Held.{none_unless}
use Rattle.outside_traits.proofs.Laid.{holds_entries, tree_distinct, tree_level}
use Rattle.outside_traits.proofs.Puts.{bool_cases}

-- the entry that is found at a path
entry_in : (xs : List (List ℕ × Entry)) (q : List ℕ) → IsSome (entry_at xs q) → (e : List ℕ × Entry) × Contains xs e × (e.0 ≡ q) × (entry_at xs q ≡ Some e.1)
entry_in [] q some = absurd (false≢true some)
entry_in (x ∷ xs) q some = elim (bool_cases (bytes_eq x.0 q)) [
  | inl same ↦ (x, (0, omega arith, refl), (bytes_eq-Decides x.0 q).0 same, ap (λ (b : Bool). option_map (λ (e : List ℕ × Entry). e.1) (cond b (Some x) (find (λ (e : List ℕ × Entry). bytes_eq e.0 q) xs))) same)
  | inr differ ↦
      let skip : entry_at (x ∷ xs) q ≡ entry_at xs q = ap (λ (b : Bool). option_map (λ (e : List ℕ × Entry). e.1) (cond b (Some x) (find (λ (e : List ℕ × Entry). bytes_eq e.0 q) xs))) differ in
      let w = entry_in xs q (subst IsSome skip some) in
      (w.0, (suc w.1.0, omega (arith, w.1.1), w.1.2), w.2, skip ∙ w.3)
]

-- an entry of the list is found at its path
held_in : (xs : List (List ℕ × Entry)) (e : List ℕ × Entry) (q : List ℕ) → Contains xs e → e.0 ≡ q → IsSome (entry_at xs q)
held_in [] e q has is = absurd (omega (arith, has.1))
held_in (x ∷ xs) e q (zero, lt, at) is =
    let same : bytes_eq x.0 q ≡ true = (bytes_eq-Decides x.0 q).1 (ap (λ (y : List ℕ × Entry). y.0) at ∙ is) in
    subst (λ (b : Bool). IsSome (option_map (λ (y : List ℕ × Entry). y.1) (cond b (Some x) (find (λ (y : List ℕ × Entry). bytes_eq y.0 q) xs)))) (sym same) refl
held_in (x ∷ xs) e q (suc k, lt, at) is =
    elim (bytes_eq x.0 q) as (λ (b : Bool). IsSome (option_map (λ (y : List ℕ × Entry). y.1) (cond b (Some x) (find (λ (y : List ℕ × Entry). bytes_eq y.0 q) xs)))) [ true ↦ refl | false ↦ held_in xs e q (k, omega (arith, lt), at) is ]

-- a list that is put in order holds the same
pub same_entries : (xs ys : List (List ℕ × Entry)) → IsPermutation xs ys → IsTree ys → entry_at ys ≡ entry_at xs
same_entries xs ys moved is_tree = λ i q. at q i
  where
    at : (q : List ℕ) → entry_at ys q ≡ entry_at xs q
    at q = elim (bool_cases (is_some (entry_at xs q))) [
      | inl some ↦
          let w = entry_in xs q some in
          let there = Contains-permutation xs ys w.0 moved w.1 in
          at_place ys q there.0 (ascending_from_tree ys is_tree) (there.1, λ d. ap (λ (e : List ℕ × Entry). e.0) (get_or_default ys there.0 d w.0 there.1 ∙ there.2) ∙ w.2) w.0
          ∙ ap (λ (e : List ℕ × Entry). Some e.1) there.2 ∙ sym w.3
      | inr none ↦
          let not_there : IsSome (entry_at ys q) → ⊥ = λ some. let w = entry_in ys q some in false≢true (sym none ∙ held_in xs w.0 q (Contains-permutation ys xs w.0 (IsPermutation-sym xs ys moved) w.1) w.2) in
          none_unless (entry_at ys q) not_there ∙ sym (none_unless (entry_at xs q) (λ some. false≢true (sym none ∙ some)))
    ]

-- a tree isn't refused
pub not_refused : (tree : List (List ℕ × Entry)) (path : List ℕ) → IsTree tree → IsFirstBadPath tree path → ⊥
not_refused tree path is_tree first = elim first.bad.bad [
  | inl unclean ↦ unclean (subst IsClean (stands_at ([], Link [])) (is_tree.clean at.0 ([], Link []) at.2))
  | inr (inl twice) ↦
      let two = places_from_twice tree path twice in
      tree_distinct tree two.left two.right ([], Link []) is_tree two.apart two.second.0 (two.first.1 ([], Link []) ∙ sym (two.second.1 ([], Link [])))
  | inr (inr above) ↦
      tree_level tree at.0 above.0 above.1 is_tree at.2 above.2 (subst (λ (p : List ℕ). IsBelow p (get_or tree above.0 above.1).0) (sym (stands_at above.1)) (subst (λ (x : List ℕ × Entry). IsBelow path x.0) (sym above.3) above.4))
]
  where
    at : Any (λ e. e.0 ≡ path) tree
    at = first.bad.stands

    stands_at : (d : List ℕ × Entry) → (get_or tree at.0 d).0 ≡ path
    stands_at d = ap (λ (x : List ℕ × Entry). x.0) (get_or_default tree at.0 d at.1 at.2 ∙ at.3) ∙ at.4

-- an element of a list that is in order comes before each later one
each_at : (P : List ℕ → Type 0) (ys : List (List ℕ)) (k : ℕ) (d : List ℕ) → AllByRecursion P ys → k < length ys → P (get_or ys k d)
each_at P [] k d all lt = absurd (omega arith)
each_at P (y ∷ ys) zero d all lt = all.0
each_at P (y ∷ ys) (suc k) d all lt = each_at P ys k d all.1 (omega arith)

strictly_at : (c : List ℕ → List ℕ → Ordering) (xs : List (List ℕ)) (i j : ℕ) (d : List ℕ) → IsStrictlySortedBy c xs → i < j → j < length xs → c (get_or xs i d) (get_or xs j d) ≡ Less
unfolding IsStrictlySortedBy
strictly_at c [] i j d sorted less fits = absurd (omega arith)
strictly_at c (x ∷ xs) zero zero d sorted less fits = absurd (omega arith)
strictly_at c (x ∷ xs) zero (suc j) d sorted less fits = each_at (λ y. c x y ≡ Less) xs j d sorted.0 (omega arith)
strictly_at c (x ∷ xs) (suc i) zero d sorted less fits = absurd (omega arith)
strictly_at c (x ∷ xs) (suc i) (suc j) d sorted less fits = strictly_at c xs i j d sorted.1 (omega arith) (omega arith)

-- one entry more is read
pub stands_more : {prefix : List ℕ} {paths : List (List ℕ)} {n : ℕ} {held : Store} {entries : List (List ℕ × Entry)} (path rest : List ℕ) (e : Entry) → n < length paths → path ≡ get_or paths n [] → path ≡ prefix ++ rest → held path ≡ Some e
    → Stands prefix paths n held entries → Stands prefix paths (n + 1) held (entries ++ (rest, e) ∷ [])
stands_more {prefix} {paths} {n} {held} {entries} path rest e fits at is holds so_far = record {
  count = length-append entries ((rest, e) ∷ []) ∙ ap (λ (m : ℕ). m + 1) so_far.count;
  paths_are = λ k d p less. elim (cases_eq k n) [
    | inl same ↦ path_at k p same ∙ is ∙ ap (λ (x : List ℕ × Entry). prefix ++ x.0) (sym (last_at k d same))
    | inr other ↦ so_far.paths_are k d p (omega arith) ∙ ap (λ (x : List ℕ × Entry). prefix ++ x.0) (sym (earlier_at k d (omega arith)))
  ];
  are_held = λ k d p less. elim (cases_eq k n) [
    | inl same ↦ ap held (path_at k p same) ∙ holds ∙ ap (λ (x : List ℕ × Entry). Some x.1) (sym (last_at k d same))
    | inr other ↦ so_far.are_held k d p (omega arith) ∙ ap (λ (x : List ℕ × Entry). Some x.1) (sym (earlier_at k d (omega arith)))
  ];
}
  where
    path_at : (k : ℕ) (p : List ℕ) → k ≡ n → get_or paths k p ≡ path
    path_at k p same = ap (λ (m : ℕ). get_or paths m p) same ∙ get_or_default paths n p [] fits ∙ sym at

    last_at : (k : ℕ) (d : List ℕ × Entry) → k ≡ n → get_or (entries ++ (rest, e) ∷ []) k d ≡ (rest, e)
    last_at k d same = ap (λ (m : ℕ). get_or (entries ++ (rest, e) ∷ []) m d) (same ∙ sym so_far.count) ∙ get_or-append_seam entries (rest, e) [] d

    earlier_at : (k : ℕ) (d : List ℕ × Entry) → k < n → get_or (entries ++ (rest, e) ∷ []) k d ≡ get_or entries k d
    earlier_at k d less = get_or_append_left entries ((rest, e) ∷ []) d k (omega (arith, so_far.count))

-- what all listed paths hold is the tree that is held under the folder
module _ (folder prefix : List ℕ) (paths : List (List ℕ)) (held : Store) (entries : List (List ℕ × Entry)) (prefix_is : prefix ≡ inside folder []) (listing : IsListing prefix held paths) (content : IsContent held) (stands : Stands prefix paths (length paths) held entries) where
  d : List ℕ × Entry
  d = ([], Link [])

  fits : (k : ℕ) → k < length entries → k < length paths
  fits k less = omega (arith, less, stands.count)

  path_is : (k : ℕ) (x : List ℕ × Entry) → k < length entries → get_or paths k [] ≡ inside folder (get_or entries k x).0
  path_is k x less = stands.paths_are k x [] (fits k less) ∙ ap (λ (l : List ℕ). l ++ (get_or entries k x).0) prefix_is ∙ append_assoc folder (47 ∷ []) (get_or entries k x).0

  held_is : (k : ℕ) (x : List ℕ × Entry) → k < length entries → held (inside folder (get_or entries k x).0) ≡ Some (get_or entries k x).1
  held_is k x less = ap held (sym (path_is k x less)) ∙ stands.are_held k x [] (fits k less)

  held_some : (k : ℕ) (x : List ℕ × Entry) → k < length entries → IsSome (held (inside folder (get_or entries k x).0))
  held_some k x less = ap is_some (held_is k x less)

  apart : (a b : List ℕ) → IsSome (held (inside folder a)) → IsSome (held (inside folder b)) → IsBelow a b → ⊥
  apart a b at_a at_b below = content.treelike (inside folder a) (inside folder b)
      (below.0, ap (inside folder) below.1 ∙ sym (append_assoc folder (47 ∷ a) (47 ∷ below.0))) at_a at_b

  ordered : (i j : ℕ) (x : List ℕ × Entry) → i < j → j < length entries → Precedes (get_or entries i x).0 (get_or entries j x).0
  ordered i j x less lt =
      let i_lt : i < length entries = omega (arith, less, lt) in
      let sorted = strictly_at (slice_cmp nat_cmp) paths i j [] listing.ascending less (fits j lt) in
      record {
        before = sym (cmp_inside folder (get_or entries i x).0 (get_or entries j x).0) ∙ subst (λ (p : List ℕ). slice_cmp nat_cmp p (inside folder (get_or entries j x).0) ≡ Less) (path_is i x i_lt) (subst (λ (q : List ℕ). slice_cmp nat_cmp (get_or paths i []) q ≡ Less) (path_is j x lt) sorted);
        not_above = apart (get_or entries i x).0 (get_or entries j x).0 (held_some i x i_lt) (held_some j x lt);
        not_below = apart (get_or entries j x).0 (get_or entries i x).0 (held_some j x lt) (held_some i x i_lt);
      }

  pub stands_tree : IsTree entries
  stands_tree = record { clean = λ k x less. clean_outside folder (get_or entries k x).0 (content.clean (inside folder (get_or entries k x).0) (held_some k x less)); ordered = ordered }

  pub stands_under : (q : List ℕ) → held (inside folder q) ≡ entry_at entries q
  stands_under = holds_entries folder entries held stands_tree (record { each = λ k x less. held_is k x less; only = only })
    where
      only : (q : List ℕ) → IsSome (held (inside folder q)) → (k : ℕ) × (k < length entries) × ((x : List ℕ × Entry) → (get_or entries k x).0 ≡ q)
      only q some =
          let at = listing.all (inside folder q) (q, sym (ap (λ (l : List ℕ). l ++ q) prefix_is ∙ append_assoc folder (47 ∷ []) q)) some in
          let less : at.0 < length entries = omega (arith, at.1, stands.count) in
          (at.0, less, λ x. under_same folder (get_or entries at.0 x).0 q (sym (path_is at.0 x less) ∙ get_or_default paths at.0 [] (inside folder q) at.1 ∙ at.2))

-- what a refusal for want of a tree would say
pub never_refused : (entries : List (List ℕ × Entry)) (fault : TreeFault) (path : List ℕ) → IsTree entries → IsRefusal entries fault → fault ≡ BadPath path → ⊥
never_refused entries fault path is_tree refused is = not_refused entries path is_tree (subst (IsRefusal entries) is refused)

-- the tree of entries that are in any order
pub tree_of_entries : (entries tree : List (List ℕ × Entry)) (max : Size) (found : Option (List (List ℕ × Entry))) → IsPermutation entries tree → IsTree tree → IsWithin tree max found → IsWithin entries max found
tree_of_entries entries tree max (Some t) moved is_tree is = (is.0, is.1 ∙ same_entries entries tree moved is_tree, is.2)
tree_of_entries entries tree max None moved is_tree is = (is.0, is.1, is.2 ∙ same_entries entries tree moved is_tree, is.3)

-- what is found of the entries is what is read
pub reads_tree : (folder : List ℕ) (entries : List (List ℕ × Entry)) (held : Store) (max : Size) (found : Option (List (List ℕ × Entry))) → ((q : List ℕ) → held (inside folder q) ≡ entry_at entries q) → IsWithin entries max found → IsReading folder max held found
reads_tree folder entries held max (Some t) under is = (record { is_tree = is.0; entries = λ q. under q ∙ ap (λ (f : Store). f q) (sym is.1) }, is.2)
reads_tree folder entries held max None under is = (is.0, record { is_tree = is.1; entries = λ q. under q ∙ ap (λ (f : Store). f q) (sym is.2) }, is.3)

-- each listed path is to be read
pub listed_held : {prefix : List ℕ} {held : Store} {paths : List (List ℕ)} → IsListing prefix held paths → (k : ℕ) (d : List ℕ) → k < length paths → BeginsWith prefix (get_or paths k d) × IsSome (held (get_or paths k d))
listed_held {prefix} {held} {paths} listing k d less = listing.are_held (get_or paths k d) (k, less, get_or_default paths k (get_or paths k d) d less)

pub reads_result : {E : Type 0} (folder : List ℕ) (entries : List (List ℕ × Entry)) (held : Store) (max : Size) (r : Result (Option (List (List ℕ × Entry))) E) → ((q : List ℕ) → held (inside folder q) ≡ entry_at entries q)
    → IfOk r (λ found. IsWithin entries max found) → IfOk r (λ found. IsReading folder max held found)
reads_result folder entries held max (Ok found) under is = reads_tree folder entries held max found under is
reads_result folder entries held max (Err e) under is = tt

-- the same listing
pub listing_on : {p p' : List ℕ} {h h' : Store} {ps ps' : List (List ℕ)} → p' ≡ p → h' ≡ h → ps' ≡ ps → IsListing p h ps → IsListing p' h' ps'
listing_on {p} {p'} {h} {h'} {ps} {ps'} p_is h_is ps_is listing =
    subst (λ (q : List ℕ). IsListing q h' ps') (sym p_is) (subst (λ (g : Store). IsListing p g ps') (sym h_is) (subst (λ (qs : List (List ℕ)). IsListing p h qs) (sym ps_is) listing))
