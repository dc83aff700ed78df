-- Trees that hold the same are the same, and what follows for overlays and folders.
use Rattle.std.proofs.Common.{◌≡◌, ◌<◌, ◌≤◌, ◌∙◌, ◌⊎◌, inl, inr, sym, ap, subst, refl, ℕ, zero, suc, List, [], ◌∷◌, ◌++◌, arith, get_or, Bool, true, false, Option, Some, None, append_assoc}
use Rattle.std.specs.Prelude.{IsSome}
use Rattle.std.specs.Str.{bytes_eq}
use Rattle.std.proofs.lemmas.Bool.{cases_lt}
use Rattle.std.proofs.lemmas.Slice.Eq.{bytes_eq-Decides}
use Rattle.tree_model.specs.declared.entry.Entry.{Entry}
use Rattle.tree_model.specs.declared.entry.Entry.TheVariants.{Link}
use Rattle.tree_model.specs.Path.{IsBelow, IsBefore}
use Rattle.tree_model.specs.Tree.{Precedes, IsTree, IsAscending, StandsAt, entry_at}
use Rattle.tree_model.specs.Folder.{placed, renamed, IsPick, rest_of}
use Rattle.tree_model.specs.Overlay.{Meets, IsFree, IsMet, IsOverlay}
use Rattle.tree_model.proofs.OrderLemmas.{before_itself, before_trans}
use Rattle.tree_model.proofs.TreeLemmas.{at_cons_same, at_cons_other, at_none, place_held, ascending_tail, ascending_from_tree}
use Rattle.tree_model.proofs.EditLemmas.{held_at}
use Rattle.tree_model.proofs.FolderLemmas.{rest_of_is, rest_of_some, inside_same, here_placed, inside_placed}

-- the first path of an ascending list comes before each other path that it holds
first_held : (y : List ℕ × Entry) (ys : List (List ℕ × Entry)) (q : List ℕ) → IsAscending (y ∷ ys) → IsSome (entry_at (y ∷ ys) q) → (y.0 ≡ q) ⊎ IsBefore y.0 q
first_held y ys q asc held = by (place_held (y ∷ ys) q held).0 (place_held (y ∷ ys) q held).1
  where
    by : (k : ℕ) → StandsAt (y ∷ ys) q k → (y.0 ≡ q) ⊎ IsBefore y.0 q
    by zero at = inl (at.1 y)
    by (suc k) at = inr (let P : List ℕ → Type 0 = λ z. IsBefore y.0 z in subst P (at.1 y) (asc 0 (suc k) y (omega arith) at.0))

none_in_tail : (x : List ℕ × Entry) (xs : List (List ℕ × Entry)) (q : List ℕ) → IsAscending (x ∷ xs) → x.0 ≡ q → entry_at xs q ≡ None
none_in_tail x xs q asc e = at_none xs q (λ k d lt h. before_itself q (
    let P : List ℕ → Type 0 = λ z. IsBefore z q in
    let Q : List ℕ → Type 0 = λ z. IsBefore x.0 z in
    subst P e (subst Q h (asc 0 (suc k) d (omega arith) (omega arith)))))

same_heads : (x y : List ℕ × Entry) (xs ys : List (List ℕ × Entry)) → IsAscending (x ∷ xs) → IsAscending (y ∷ ys) → ((q : List ℕ) → entry_at (x ∷ xs) q ≡ entry_at (y ∷ ys) q) → x.0 ≡ y.0
same_heads x y xs ys ax ay h =
    by (first_held y ys x.0 ay (let P : Option Entry → Type 0 = λ o. IsSome o in subst P (sym (at_cons_same x xs x.0 refl) ∙ h x.0) refl))
    (first_held x xs y.0 ax (let P : Option Entry → Type 0 = λ o. IsSome o in subst P (sym (at_cons_same y ys y.0 refl) ∙ sym (h y.0)) refl))
  where
    by : (y.0 ≡ x.0) ⊎ IsBefore y.0 x.0 → (x.0 ≡ y.0) ⊎ IsBefore x.0 y.0 → x.0 ≡ y.0
    by (inl e) _ = sym e
    by (inr b) (inl e) = e
    by (inr b) (inr c) = absurd (before_itself x.0 (before_trans x.0 y.0 x.0 c b))

-- behind equal heads the same is held
tail_at : (x y : List ℕ × Entry) (xs ys : List (List ℕ × Entry)) → IsAscending (x ∷ xs) → IsAscending (y ∷ ys) → x.0 ≡ y.0 → ((q : List ℕ) → entry_at (x ∷ xs) q ≡ entry_at (y ∷ ys) q) → (q : List ℕ) (t : Bool) → bytes_eq x.0 q ≡ t → entry_at xs q ≡ entry_at ys q
tail_at x y xs ys ax ay e h q true f =
    let here : x.0 ≡ q = (bytes_eq-Decides x.0 q).0 f in
    none_in_tail x xs q ax here ∙ sym (none_in_tail y ys q ay (sym e ∙ here))
tail_at x y xs ys ax ay e h q false f =
    let other : x.0 ≡ q → ⊥ = λ g. (let t = (bytes_eq-Decides x.0 q).1 g in cc) in
    sym (at_cons_other x xs q other) ∙ h q ∙ at_cons_other y ys q (λ g. other (e ∙ g))

-- ascending lists that hold the same are the same
pub same_lists_held : (xs ys : List (List ℕ × Entry)) → IsAscending xs → IsAscending ys → ((q : List ℕ) → entry_at xs q ≡ entry_at ys q) → xs ≡ ys
same_lists_held [] [] ax ay h = refl
same_lists_held [] (y ∷ ys) ax ay h = absurd (let t : ◌≡◌ {A = Option Entry} None (Some y.1) = h y.0 ∙ at_cons_same y ys y.0 refl in cc)
same_lists_held (x ∷ xs) [] ax ay h = absurd (let t : ◌≡◌ {A = Option Entry} (Some x.1) None = sym (at_cons_same x xs x.0 refl) ∙ h x.0 in cc)
same_lists_held (x ∷ xs) (y ∷ ys) ax ay h =
    let e : x.0 ≡ y.0 = same_heads x y xs ys ax ay h in
    let s : ◌≡◌ {A = Option Entry} (Some x.1) (Some y.1) = sym (at_cons_same x xs x.0 refl) ∙ h x.0 ∙ at_cons_same y ys x.0 (sym e) in
    let v : x.1 ≡ y.1 = cc in
    let tails : xs ≡ ys = same_lists_held xs ys (ascending_tail x xs ax) (ascending_tail y ys ay) (λ q. tail_at x y xs ys ax ay e h q (bytes_eq x.0 q) refl) in
    (λ i. (e i, v i) ∷ tails i)

-- trees that hold the same are the same
pub same_trees : (xs ys : List (List ℕ × Entry)) → IsTree xs → IsTree ys → ((q : List ℕ) → entry_at xs q ≡ entry_at ys q) → xs ≡ ys
same_trees xs ys tx ty h = same_lists_held xs ys (ascending_from_tree xs tx) (ascending_from_tree ys ty) h

-- ---- whether paths meet

below_or_not : (a b : List ℕ) → IsBelow a b ⊎ (IsBelow a b → ⊥)
below_or_not a b = by (rest_of (a ++ 47 ∷ []) b) refl
  where
    by : (o : Option (List ℕ)) → rest_of (a ++ 47 ∷ []) b ≡ o → IsBelow a b ⊎ (IsBelow a b → ⊥)
    by (Some r) e = inl (r, rest_of_is (a ++ 47 ∷ []) b r e ∙ append_assoc a (47 ∷ []) r)
    by None e = inr (λ h. (let s : ◌≡◌ {A = Option (List ℕ)} (Some h.0) None = rest_of_some (a ++ 47 ∷ []) b h.0 (h.1 ∙ sym (append_assoc a (47 ∷ []) h.0)) ∙ e in cc))

meets_or_not : (a b : List ℕ) → Meets a b ⊎ (Meets a b → ⊥)
meets_or_not a b = by (bytes_eq b a) refl (below_or_not a b) (below_or_not b a)
  where
    by : (t : Bool) → bytes_eq b a ≡ t → IsBelow a b ⊎ (IsBelow a b → ⊥) → IsBelow b a ⊎ (IsBelow b a → ⊥) → Meets a b ⊎ (Meets a b → ⊥)
    by true e _ _ = inl (inl (inl ((bytes_eq-Decides b a).0 e)))
    by false e (inl h) _ = inl (inl (inr h))
    by false e (inr _) (inl h) = inl (inr h)
    by false e (inr n) (inr m) = inr none
      where
        none : Meets a b → ⊥
        none (inl (inl same)) = let t = (bytes_eq-Decides b a).1 same in cc
        none (inl (inr h)) = n h
        none (inr h) = m h

pub met_or_free : (xs : List (List ℕ × Entry)) (q : List ℕ) → IsMet xs q ⊎ IsFree xs q
met_or_free [] q = inr (λ k d lt m. absurd (omega arith))
met_or_free (x ∷ xs) q = by (met_or_free xs q) (meets_or_not q x.0)
  where
    by : IsMet xs q ⊎ IsFree xs q → Meets q x.0 ⊎ (Meets q x.0 → ⊥) → IsMet (x ∷ xs) q ⊎ IsFree (x ∷ xs) q
    by _ (inl m) = inl (0, x, omega arith, refl, m)
    by (inl m) (inr _) = inl (suc m.0, m.1, omega (arith, m.2), m.3, m.4)
    by (inr f) (inr n) = inr each
      where
        each : IsFree (x ∷ xs) q
        each zero d lt m = n m
        each (suc k) d lt m = f k d (omega arith) m

-- ---- an overlay is one tree

not_met_after : (p q : List ℕ) → Precedes p q → Meets q p → ⊥
not_met_after p q h (inl (inl e)) = let P : List ℕ → Type 0 = λ z. IsBefore p z in before_itself p (subst P (sym e) h.before)
not_met_after p q h (inl (inr b)) = h.not_below b
not_met_after p q h (inr b) = h.not_above b

not_met_before : (p q : List ℕ) → Precedes q p → Meets q p → ⊥
not_met_before p q h (inl (inl e)) = let P : List ℕ → Type 0 = λ z. IsBefore q z in before_itself q (subst P e h.before)
not_met_before p q h (inl (inr b)) = h.not_above b
not_met_before p q h (inr b) = h.not_below b

precedes_at : (xs : List (List ℕ × Entry)) (p q : List ℕ) (i j : ℕ) → IsTree xs → StandsAt xs p i → StandsAt xs q j → i < j → Precedes p q
precedes_at xs p q i j tree at at' lt =
    let P : List ℕ → Type 0 = λ z. Precedes z q in
    let Q : List ℕ → Type 0 = λ z. Precedes (get_or xs i ([], Link [])).0 z in
    subst P (at.1 ([], Link [])) (subst Q (at'.1 ([], Link [])) (tree.ordered i j ([], Link []) lt at'.0))

-- two paths of a tree that meet are one
one_place : (xs : List (List ℕ × Entry)) (p q : List ℕ) → IsTree xs → IsSome (entry_at xs p) → IsSome (entry_at xs q) → Meets q p → q ≡ p
one_place xs p q tree hp hq meets = by (place_held xs p hp) (place_held xs q hq)
  where
    by : (i : ℕ) × StandsAt xs p i → (j : ℕ) × StandsAt xs q j → q ≡ p
    by a b = at (cases_lt a.0 b.0) (cases_lt b.0 a.0)
      where
        at : (a.0 < b.0) ⊎ (b.0 ≤ a.0) → (b.0 < a.0) ⊎ (a.0 ≤ b.0) → q ≡ p
        at (inl lt) _ = absurd (not_met_after p q (precedes_at xs p q a.0 b.0 tree a.1 b.1 lt) meets)
        at (inr _) (inl lt) = absurd (not_met_before p q (precedes_at xs q p b.0 a.0 tree b.1 a.1 lt) meets)
        at (inr x) (inr y) =
            let m : b.0 ≡ a.0 = omega arith in
            sym (b.1.1 ([], Link [])) ∙ ap (λ k. (get_or xs k ([], Link [])).0) m ∙ a.1.1 ([], Link [])

-- what an overlay holds where a later path meets this one
pub held_where_met : (a b x : List (List ℕ × Entry)) (q : List ℕ) → IsTree b → IsOverlay a b x → IsMet b q → entry_at x q ≡ entry_at b q
held_where_met a b x q tree over met = by (entry_at x q) refl
  where
    stands : IsSome (entry_at b met.1.0)
    stands = let P : List ℕ × Entry → Type 0 = λ e. IsSome (entry_at b e.0) in subst P met.3 (held_at b met.0 met.1 tree met.2)

    held : IsSome (entry_at x met.1.0)
    held = let P : Option Entry → Type 0 = λ o. IsSome o in subst P (sym (over.laid met.1.0 (let Q : List ℕ × Entry → Type 0 = λ e. IsSome (entry_at b e.0) in subst Q met.3 (held_at b met.0 met.1 tree met.2)))) (let Q : List ℕ × Entry → Type 0 = λ e. IsSome (entry_at b e.0) in subst Q met.3 (held_at b met.0 met.1 tree met.2))

    later : (o : Option Entry) → entry_at b q ≡ o → entry_at x q ≡ None → entry_at x q ≡ entry_at b q
    later None f e = e ∙ sym f
    later (Some v) f e = over.laid q (let P : Option Entry → Type 0 = λ o. IsSome o in subst P (sym f) refl)

    by : (o : Option Entry) → entry_at x q ≡ o → entry_at x q ≡ entry_at b q
    by None e = later (entry_at b q) refl e
    by (Some v) e =
        let same : q ≡ met.1.0 = one_place x met.1.0 q over.tree held (let P : Option Entry → Type 0 = λ o. IsSome o in subst P (sym e) refl) met.4 in
        over.laid q (let P : List ℕ → Type 0 = λ z. IsSome (entry_at b z) in subst P (sym same) stands)

-- two trees over each other give one tree
pub one_overlay : (a b x y : List (List ℕ × Entry)) → IsTree b → IsOverlay a b x → IsOverlay a b y → x ≡ y
one_overlay a b x y tree ox oy = same_trees x y ox.tree oy.tree (λ q. by q (met_or_free b q))
  where
    by : (q : List ℕ) → IsMet b q ⊎ IsFree b q → entry_at x q ≡ entry_at y q
    by q (inl m) = held_where_met a b x q tree ox m ∙ sym (held_where_met a b y q tree oy m)
    by q (inr f) = ox.left q f ∙ sym (oy.left q f)

pub over_itself : (a : List (List ℕ × Entry)) → IsTree a → IsOverlay a a a
over_itself a tree = record { tree = tree; laid = λ q held. refl; left = λ q free. refl }

pub over_empty : (a : List (List ℕ × Entry)) → IsTree a → IsOverlay [] a a
over_empty a tree = record { tree = tree; laid = λ q held. refl; left = λ q free. at_none a q (λ k d lt h. free k d lt (inl (inl h))) }

pub empty_over : (a : List (List ℕ × Entry)) → IsTree a → IsOverlay a [] a
empty_over a tree = record { tree = tree; laid = λ q held. absurd (cc); left = λ q free. refl }

-- ---- pick after place

at_renamed : (f : List ℕ → List ℕ) → ((a b : List ℕ) → f a ≡ f b → a ≡ b) → (xs : List (List ℕ × Entry)) (q : List ℕ) → entry_at (renamed f xs) (f q) ≡ entry_at xs q
at_renamed f one [] q = refl
at_renamed f one (x ∷ xs) q = by (at_renamed f one xs q) (bytes_eq x.0 q) refl
  where
    by : entry_at (renamed f xs) (f q) ≡ entry_at xs q → (t : Bool) → bytes_eq x.0 q ≡ t → entry_at (renamed f (x ∷ xs)) (f q) ≡ entry_at (x ∷ xs) q
    by rest true e =
        let h : x.0 ≡ q = (bytes_eq-Decides x.0 q).0 e in
        at_cons_same (f x.0, x.1) (renamed f xs) (f q) (ap f h) ∙ sym (at_cons_same x xs q h)
    by rest false e =
        let n : x.0 ≡ q → ⊥ = λ h. (let t = (bytes_eq-Decides x.0 q).1 h in cc) in
        at_cons_other (f x.0, x.1) (renamed f xs) (f q) (λ h. n (one x.0 q h)) ∙ rest ∙ sym (at_cons_other x xs q n)

placed_apart : (folder : List ℕ) (t : Bool) → t ≡ bytes_eq folder (46 ∷ []) → (a b : List ℕ) → placed folder a ≡ placed folder b → a ≡ b
placed_apart folder true e a b h = sym (ap (λ f. f a) (here_placed folder e)) ∙ h ∙ ap (λ f. f b) (here_placed folder e)
placed_apart folder false e a b h = inside_same folder a b (sym (ap (λ f. f a) (inside_placed folder e)) ∙ h ∙ ap (λ f. f b) (inside_placed folder e))

pub picked_back : (folder : List ℕ) (tree put picked : List (List ℕ × Entry)) → IsTree tree → put ≡ renamed (placed folder) tree → IsPick folder put picked → picked ≡ tree
picked_back folder tree put picked is same pick =
    same_trees picked tree pick.is_tree is (λ q. pick.held q ∙ ap (λ l. entry_at l (placed folder q)) same ∙ at_renamed (placed folder) (placed_apart folder (bytes_eq folder (46 ∷ [])) refl) tree q)
