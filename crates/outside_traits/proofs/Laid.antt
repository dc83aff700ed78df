-- A tree that is laid under a folder, entry by entry.
use Rattle.std.proofs.Common.{◌≡◌, ◌≢◌, ◌⊎◌, inl, inr, ℕ, zero, suc, ◌<◌, Bool, true, false, cond, List, [], ◌∷◌, length, get_or, Option, Some, None, refl, sym, ◌∙◌, ap, subst, arith, length-append}
use Rattle.std.specs.Prelude.{IsSome, find, option_map}
use Rattle.std.specs.Str.{bytes_eq}
use Rattle.std.specs.declared.cmp.Ordering.TheVariants.{Less, Equal}
use Rattle.std.specs.Ordering.{nat_cmp}
use Rattle.std.specs.Cmp.Lexicographic.{slice_cmp}
use Rattle.std.proofs.lemmas.Bool.{false≢true, cases_eq}
use Rattle.std.proofs.lemmas.Cmp.{tied_itself, nat_list_cmp_total}
use Rattle.std.proofs.lemmas.Slice.Eq.{bytes_eq-Decides}
use Rattle.tree_model.specs.declared.entry.Entry.{Entry}
use Rattle.tree_model.specs.declared.entry.Entry.TheVariants.{Link}
use Rattle.tree_model.specs.Path.{IsBelow, inside}
use Rattle.tree_model.specs.Tree.{IsTree, Precedes, entry_at}
use Rattle.outside_traits.specs.Store.{Store, IsOpen, HoldsTree}
use Rattle.outside_traits.proofs.Puts.{bool_cases}

-- just the first n entries of the tree are held under the folder
pub record HoldsFirst (n : ℕ) (folder : List ℕ) (tree : List (List ℕ × Entry)) (held : Store) : Type 0 where
  pub each : (k : ℕ) (d : List ℕ × Entry) → k < n → held (inside folder (get_or tree k d).0) ≡ Some (get_or tree k d).1
  pub only : (q : List ℕ) → IsSome (held (inside folder q)) → (k : ℕ) × (k < n) × ((d : List ℕ × Entry) → (get_or tree k d).0 ≡ q)

-- a path that precedes another differs from it
differs : (a b : List ℕ) → Precedes a b → a ≢ b
differs a b before same =
    let P : List ℕ → Type 0 = λ l. slice_cmp nat_cmp a l ≡ Less in
    let e : Equal ≡ Less = sym (tied_itself nat_list_cmp_total a) ∙ subst P (sym same) before.before in
    cc

-- no path stands twice in a tree
pub tree_distinct : (tree : List (List ℕ × Entry)) (i j : ℕ) (d : List ℕ × Entry) → IsTree tree → i < j → j < length tree → (get_or tree i d).0 ≢ (get_or tree j d).0
tree_distinct tree i j d is_tree lt fits = differs _ _ (is_tree.ordered i j d lt fits)

order_cases : (a b : ℕ) → a ≢ b → (a < b) ⊎ (b < a)
order_cases zero zero ne = absurd (ne refl)
order_cases zero (suc b) ne = inl (omega arith)
order_cases (suc a) zero ne = inr (omega arith)
order_cases (suc a) (suc b) ne = elim (order_cases a b (λ e. ne (ap suc e))) [ inl lt ↦ inl (omega arith) | inr gt ↦ inr (omega arith) ]

-- two places of a tree have two paths
pub tree_apart : (tree : List (List ℕ × Entry)) (i j : ℕ) (d : List ℕ × Entry) → IsTree tree → i ≢ j → i < length tree → j < length tree → (get_or tree i d).0 ≢ (get_or tree j d).0
tree_apart tree i j d is_tree ne i_fits j_fits same = elim (order_cases i j ne) [
  | inl lt ↦ tree_distinct tree i j d is_tree lt j_fits same
  | inr gt ↦ tree_distinct tree j i d is_tree gt i_fits (sym same)
]

below_itself : (p : List ℕ) → IsBelow p p → ⊥
below_itself p below = let e = ap length below.1 ∙ length-append p (47 ∷ below.0) in omega arith

-- no path of a tree stands below another
pub tree_level : (tree : List (List ℕ × Entry)) (i j : ℕ) (d : List ℕ × Entry) → IsTree tree → i < length tree → j < length tree → IsBelow (get_or tree i d).0 (get_or tree j d).0 → ⊥
tree_level tree i j d is_tree i_fits j_fits below = elim (cases_eq i j) [
  | inl same ↦ below_itself (get_or tree j d).0 (subst (λ (k : ℕ). IsBelow (get_or tree k d).0 (get_or tree j d).0) same below)
  | inr other ↦ elim (order_cases i j other) [
    | inl lt ↦ (is_tree.ordered i j d lt j_fits).not_above below
    | inr gt ↦ (is_tree.ordered j i d gt i_fits).not_below below
  ]
]

-- what the search finds behind a test of the first entry
abbrev found_after : List (List ℕ × Entry) → List ℕ → List ℕ × Entry → Bool → Option Entry
found_after xs p x b = option_map (λ (e : List ℕ × Entry). e.1) (cond b (Some x) (find (λ e. bytes_eq e.0 p) xs))

-- each entry of a list without a path twice is found at its path
found_at : (tree : List (List ℕ × Entry)) (k : ℕ) (d : List ℕ × Entry) → ((i j : ℕ) → i < j → j < length tree → (get_or tree i d).0 ≢ (get_or tree j d).0) → k < length tree → entry_at tree (get_or tree k d).0 ≡ Some (get_or tree k d).1
found_at [] k d distinct lt = absurd (omega arith)
found_at (x ∷ xs) zero d distinct lt = ap (found_after xs x.0 x) ((bytes_eq-Decides x.0 x.0).1 refl)
found_at (x ∷ xs) (suc k) d distinct lt = elim (bool_cases (bytes_eq x.0 (get_or xs k d).0)) [
  | inl same ↦ absurd (distinct 0 (suc k) (omega arith) lt ((bytes_eq-Decides x.0 (get_or xs k d).0).0 same))
  | inr other ↦ ap (found_after xs (get_or xs k d).0 x) other ∙ found_at xs k d (λ i j less fits. distinct (suc i) (suc j) (omega arith) (omega arith)) (omega arith)
]

-- what is found stands in the list
pub found_in : (tree : List (List ℕ × Entry)) (q : List ℕ) → IsSome (entry_at tree q) → (k : ℕ) × (k < length tree) × ((d : List ℕ × Entry) → (get_or tree k d).0 ≡ q)
found_in [] q some = let h : false ≡ true = some in absurd (false≢true h)
found_in (x ∷ xs) q some = elim (bool_cases (bytes_eq x.0 q)) [
  | inl same ↦ (0, omega arith, λ d. (bytes_eq-Decides x.0 q).0 same)
  | inr other ↦
      let rest = found_in xs q (subst (λ (b : Bool). IsSome (found_after xs q x b)) other some) in
      (suc rest.0, omega (arith, rest.1), rest.2)
]

-- of two paths that a tree has none lies below the other
pub paths_level : (tree : List (List ℕ × Entry)) (p q : List ℕ) → IsTree tree → IsSome (entry_at tree p) → IsSome (entry_at tree q) → IsBelow p q → ⊥
paths_level tree p q is_tree at_p at_q below =
    let d : List ℕ × Entry = ([], Link []) in
    let u = found_in tree p at_p in
    let v = found_in tree q at_q in
    tree_level tree u.0 v.0 d is_tree u.1 v.1 (subst (λ (x : List ℕ). IsBelow x (get_or tree v.0 d).0) (sym (u.2 d)) (subst (λ (y : List ℕ). IsBelow p y) (sym (v.2 d)) below))

-- an entry of a tree is found at its path
pub tree_found : (tree : List (List ℕ × Entry)) (k : ℕ) (d : List ℕ × Entry) → IsTree tree → k < length tree → entry_at tree (get_or tree k d).0 ≡ Some (get_or tree k d).1
tree_found tree k d is_tree lt = found_at tree k d (λ i j less fits. tree_distinct tree i j d is_tree less fits) lt

-- two answers of look-ups agree where each is there whenever the other is
agree : (o p : Option Entry) → (IsSome o → o ≡ p) → (IsSome p → IsSome o) → o ≡ p
agree (Some e) p held back = held refl
agree None None held back = refl
agree None (Some e) held back = let h : false ≡ true = back refl in absurd (false≢true h)

-- where each entry of the tree is held under the folder and no other is, that is what is held there
pub holds_entries : (folder : List ℕ) (tree : List (List ℕ × Entry)) (held : Store) → IsTree tree → HoldsFirst (length tree) folder tree held → (q : List ℕ) → held (inside folder q) ≡ entry_at tree q
holds_entries folder tree held is_tree first = entries
  where
    d : List ℕ × Entry
    d = ([], Link [])

    found : (k : ℕ) (q : List ℕ) → k < length tree → (get_or tree k d).0 ≡ q → held (inside folder q) ≡ entry_at tree q
    found k q lt is =
        ap (λ (p : List ℕ). held (inside folder p)) (sym is) ∙ first.each k d lt
        ∙ sym (ap (entry_at tree) (sym is) ∙ tree_found tree k d is_tree lt)

    entries : (q : List ℕ) → held (inside folder q) ≡ entry_at tree q
    entries q = agree (held (inside folder q)) (entry_at tree q)
        (λ some. let w = first.only q some in found w.0 q w.1 (w.2 d))
        (λ some. let w = found_in tree q some in subst IsSome (sym (found w.0 q w.1 (w.2 d))) some)

-- and then the folder holds the tree
pub holds_tree : (folder : List ℕ) (tree : List (List ℕ × Entry)) (held : Store) → IsTree tree → HoldsFirst (length tree) folder tree held → IsOpen folder held → HoldsTree folder tree held
holds_tree folder tree held is_tree first open_at = record { entries = holds_entries folder tree held is_tree first; outside = open_at }
