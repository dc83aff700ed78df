-- Trees under a folder's name.
use Rattle.std.proofs.Common.{◌≡◌, ◌<◌, ◌≤◌, ◌+◌, ◌∙◌, sym, ap, subst, refl, ℕ, List, [], ◌∷◌, ◌++◌, length, take, All, AllPairs, arith, get_or, Bool, true, false, Option, Some, None, length-append, append_assoc}
use Rattle.std.specs.Prelude.{MatchOption, option_map, ◌==◌}
use Rattle.std.specs.List.{cons_option}
use Rattle.std.specs.Option.{option_to_list, option_copied}
use Rattle.std.specs.Str.Pattern.{FindsTextPrefix, StripsPrefix}
use Rattle.std.specs.List.{onto_first}
use Rattle.std.proofs.lemmas.Option.{same_Some}
use denote.Ref.{Bor}
use Rattle.std.specs.Ordering.{nat_cmp, ordering_then}
use Rattle.std.specs.Cmp.Lexicographic.{slice_cmp}
use Rattle.std.specs.Str.{bytes_eq}
use Rattle.std.proofs.lemmas.Bool.{cond-true, cond-false, eqb-true, eq-eqb}
use Rattle.std.proofs.lemmas.Cmp.{nat_cmp_total, tied_itself}
use Rattle.std.proofs.lemmas.List.{take_more, map_more, get_or_read, get_or-map, length-map, take_all, get_or-append-add, map-id}
use Rattle.std.proofs.lemmas.List.Elements.{All-cons, All-nil, All-head, All-tail, filter_map-append}
use Rattle.std.proofs.lemmas.List.Kept.{AllPairs-cons}
use Rattle.std.proofs.lemmas.List.Splits.{slice_split-cons_yes, slice_split-cons_no, length-slice_split}
use Rattle.std.proofs.lemmas.Slice.Eq.{bytes_eq-Decides}
use borrow.Author.Count.{below_more}
use Rattle.tree_model.specs.declared.entry.Entry.{Entry}
use Rattle.tree_model.specs.Path.{IsClean, IsPart, IsBelow, inside, parts_of}
use Rattle.tree_model.specs.Tree.{Precedes, IsTree, entry_at}
use Rattle.tree_model.specs.Folder.{IsFirstUnclean, placed, renamed, IsPick, rest_of, entry_behind, entries_below}
use Rattle.tree_model.proofs.TreeLemmas.{at_cons_same, at_cons_other}
use Rattle.tree_model.proofs.EditLemmas.{all_pairs_head, all_pairs_tail, tree_same}

-- ---- what is left behind a prefix

rest_of_same : (prefix rest : List ℕ) → rest_of prefix (prefix ++ rest) ≡ Some rest
rest_of_same [] rest = refl
rest_of_same (x ∷ prefix) rest = cond-true (x == x) (rest_of prefix (prefix ++ rest)) None (eq-eqb x x refl) ∙ rest_of_same prefix rest

pub rest_of_is : (prefix path rest : List ℕ) → rest_of prefix path ≡ Some rest → path ≡ prefix ++ rest
rest_of_is [] path rest h = cc
rest_of_is (x ∷ prefix) [] rest h = absurd (cc)
rest_of_is (x ∷ prefix) (y ∷ path) rest h = by (rest_of_is prefix path rest) (x == y) refl
  where
    by : (rest_of prefix path ≡ Some rest → path ≡ prefix ++ rest) → (t : Bool) → (x == y) ≡ t → y ∷ path ≡ x ∷ (prefix ++ rest)
    by hyp true e = let s : x ≡ y = eqb-true x y e in let r = hyp (sym (cond-true (x == y) (rest_of prefix path) None e) ∙ h) in (λ i. sym s i ∷ r i)
    by hyp false e = absurd (let n = cond-false (x == y) (rest_of prefix path) None e in cc)

pub rest_of_some : (prefix path rest : List ℕ) → path ≡ prefix ++ rest → Some rest ≡ rest_of prefix path
rest_of_some prefix path rest e = sym (ap (rest_of prefix) e ∙ rest_of_same prefix rest)

none_of : (prefix path : List ℕ) → ((rest : List ℕ) → path ≡ prefix ++ rest → ⊥) → (o : Option (List ℕ)) → rest_of prefix path ≡ o → None ≡ rest_of prefix path
none_of prefix path other None e = sym e
none_of prefix path other (Some rest) e = absurd (other rest (rest_of_is prefix path rest e))

pub rest_of_none : (prefix path : List ℕ) → ((rest : List ℕ) → path ≡ prefix ++ rest → ⊥) → None ≡ rest_of prefix path
rest_of_none prefix path other = none_of prefix path other (rest_of prefix path) refl

-- ---- one entry more

pub below_more_entry : (xs made new : List (List ℕ × Entry)) (i : ℕ) (e : List ℕ × Entry) (folder prefix : List ℕ) → i < length xs → e ≡ get_or xs i e → prefix ≡ folder ++ 47 ∷ [] → made ≡ entries_below folder (take i xs) → new ≡ made ++ option_to_list (entry_behind prefix e) → new ≡ entries_below folder (take (i + 1) xs)
below_more_entry xs made new i e folder prefix lt is same so_far pushed =
    pushed ∙ (λ j. so_far j ++ option_to_list (entry_behind (same j) (is j)))
    ∙ ap (λ l. entries_below folder (take i xs) ++ l) (one (entry_behind (folder ++ 47 ∷ []) (get_or xs i e)))
    ∙ sym (filter_map-append (entry_behind (folder ++ 47 ∷ [])) (take i xs) (get_or xs i e ∷ []))
    ∙ ap (entries_below folder) (sym (take_more xs i e lt))
  where
    one : (o : Option (List ℕ × Entry)) → option_to_list o ≡ cons_option o []
    one None = refl
    one (Some x) = refl

pub inside_more : (xs made new : List (List ℕ × Entry)) (i : ℕ) (e : List ℕ × Entry) (folder text path : List ℕ) (entry : Entry) → i < length xs → e ≡ get_or xs i e → text ≡ e.0 → path ≡ inside folder text → entry ≡ e.1 → made ≡ renamed (inside folder) (take i xs) → new ≡ made ++ (path, entry) ∷ [] → new ≡ renamed (inside folder) (take (i + 1) xs)
inside_more xs made new i e folder text path entry lt is same_text same_path same_entry so_far pushed =
    let new_path : path ≡ inside folder e.0 = same_path ∙ ap (inside folder) same_text in
    pushed ∙ (λ j. so_far j ++ (new_path j, same_entry j) ∷ []) ∙ ap (λ x. renamed (inside folder) (take i xs) ++ (inside folder x.0, x.1) ∷ []) is
    ∙ sym (map_more (λ x. (inside folder x.0, x.1)) xs i e lt)

pub clean_inside_more : (xs : List (List ℕ × Entry)) (i : ℕ) (e : List ℕ × Entry) (folder text path made : List ℕ) → i < length xs → e ≡ get_or xs i e → text ≡ e.0 → path ≡ inside folder text → made ≡ path → IsClean made → ((k : ℕ) (d : List ℕ × Entry) → k < i → IsClean (inside folder (get_or xs k d).0)) → (k : ℕ) (d : List ℕ × Entry) → k < i + 1 → IsClean (inside folder (get_or xs k d).0)
clean_inside_more xs i e folder text path made lt is same_text same_path same_made clean below k d k_lt =
    below_more (λ m. IsClean (inside folder (get_or xs m d).0)) i (λ m h. below m d h)
    (let P : List ℕ → Type 0 = λ p. IsClean p in subst P (same_made ∙ same_path ∙ ap (inside folder) (same_text ∙ ap (λ x. x.0) (get_or_read xs i e lt is d))) clean) k k_lt

pub all_inside : (xs made : List (List ℕ × Entry)) (i : ℕ) (folder : List ℕ) → length xs ≤ i → made ≡ renamed (inside folder) (take i xs) → ((k : ℕ) (d : List ℕ × Entry) → k < i → IsClean (inside folder (get_or xs k d).0)) → (made ≡ renamed (inside folder) xs) × All (λ e. IsClean e.0) made
all_inside xs made i folder le so_far clean =
    let whole : made ≡ renamed (inside folder) xs = so_far ∙ ap (renamed (inside folder)) (take_all i xs le) in (
      whole,
      λ k d lt.
          let in' : k < length xs = omega (arith, ap length whole, length-map {B = List ℕ × Entry} xs (λ e. (inside folder e.0, e.1))) in
          let P : List ℕ → Type 0 = λ p. IsClean p in
          subst P (sym (ap (λ l. (get_or l k d).0) whole ∙ ap (λ x. x.0) (get_or-map (λ e. (inside folder e.0, e.1)) xs k d d in'))) (clean k d (omega arith)),
    )

-- the first path that isn't clean under the folder's name
pub first_unclean : (xs : List (List ℕ × Entry)) (i : ℕ) (e : List ℕ × Entry) (folder text path made : List ℕ) → i < length xs → e ≡ get_or xs i e → text ≡ e.0 → path ≡ inside folder text → made ≡ path → (IsClean made → ⊥) → ((k : ℕ) (d : List ℕ × Entry) → k < i → IsClean (inside folder (get_or xs k d).0)) → IsFirstUnclean (inside folder) xs path
first_unclean xs i e folder text path made lt is same_text same_path same_made unclean before = record {
  place = i;
  within = lt;
  is = λ d. same_path ∙ ap (inside folder) (same_text ∙ ap (λ x. x.0) (get_or_read xs i e lt is d));
  unclean = λ h. let P : List ℕ → Type 0 = λ p. IsClean p in unclean (subst P (sym same_made) h);
  before = before;
}

-- what `strip_prefix` answers
pub stripped : (prefix path : List ℕ) (r : Option (Bor (List ℕ))) → MatchOption r (FindsTextPrefix prefix path None) (λ x. StripsPrefix (FindsTextPrefix prefix) path x.now) → option_copied r ≡ rest_of prefix path
stripped prefix path None h = rest_of_none prefix path h
stripped prefix path (Some x) h = rest_of_some prefix path x.now (h.1.1 ∙ ap (λ l. prefix ++ l) (sym h.2))

-- ---- paths in a folder

pub cmp_inside : (folder a b : List ℕ) → slice_cmp nat_cmp (inside folder a) (inside folder b) ≡ slice_cmp nat_cmp a b
cmp_inside [] a b = refl
cmp_inside (x ∷ folder) a b = ap (λ o. ordering_then o (slice_cmp nat_cmp (inside folder a) (inside folder b))) (tied_itself nat_cmp_total x) ∙ cmp_inside folder a b

same_behind : (front xs ys : List ℕ) → front ++ xs ≡ front ++ ys → xs ≡ ys
same_behind [] xs ys e = e
same_behind (x ∷ front) xs ys e = same_behind front xs ys (cc)

pub inside_same : (folder a b : List ℕ) → inside folder a ≡ inside folder b → a ≡ b
inside_same folder a b e = let t : 47 ∷ a ≡ 47 ∷ b = same_behind folder (47 ∷ a) (47 ∷ b) e in cc

inside_below : (folder a b : List ℕ) → IsBelow (inside folder a) (inside folder b) → IsBelow a b
inside_below folder a b h =
    let e : folder ++ 47 ∷ b ≡ folder ++ (47 ∷ (a ++ 47 ∷ h.0)) = h.1 ∙ append_assoc folder (47 ∷ a) (47 ∷ h.0) in
    let t : 47 ∷ b ≡ 47 ∷ (a ++ 47 ∷ h.0) = same_behind folder (47 ∷ b) (47 ∷ (a ++ 47 ∷ h.0)) e in
    (h.0, cc)

below_inside : (folder a b : List ℕ) → IsBelow a b → IsBelow (inside folder a) (inside folder b)
below_inside folder a b h = (h.0, ap (inside folder) h.1 ∙ sym (append_assoc folder (47 ∷ a) (47 ∷ h.0)))

pub precedes_inside : (folder a b : List ℕ) → Precedes a b → Precedes (inside folder a) (inside folder b)
precedes_inside folder a b p = record {
  before = cmp_inside folder a b ∙ p.before;
  not_above = λ h. p.not_above (inside_below folder a b h);
  not_below = λ h. p.not_below (inside_below folder b a h);
}

precedes_outside : (folder a b : List ℕ) → Precedes (inside folder a) (inside folder b) → Precedes a b
precedes_outside folder a b p = record {
  before = sym (cmp_inside folder a b) ∙ p.before;
  not_above = λ h. p.not_above (below_inside folder a b h);
  not_below = λ h. p.not_below (below_inside folder b a h);
}

pub tree_inside : (xs made : List (List ℕ × Entry)) (folder : List ℕ) → IsTree xs → made ≡ renamed (inside folder) xs → All (λ e. IsClean e.0) made → IsTree made
tree_inside xs made folder tree is clean = record {
  clean = clean;
  ordered =
      let P : List (List ℕ × Entry) → Type 0 = λ l. AllPairs (λ a b. Precedes a.0 b.0) l in
      subst P (sym is) (λ i j d lt within.
      let j_lt : j < length xs = omega (arith, length-map {B = List ℕ × Entry} xs (λ e. (inside folder e.0, e.1))) in
      let Q : List ℕ × Entry → Type 0 = λ x. Precedes x.0 (get_or (renamed (inside folder) xs) j d).0 in
      let R : List ℕ × Entry → Type 0 = λ x. Precedes (inside folder (get_or xs i d).0) x.0 in
      subst Q (sym (get_or-map (λ e. (inside folder e.0, e.1)) xs i d d (omega arith)))
      (subst R (sym (get_or-map (λ e. (inside folder e.0, e.1)) xs j d d j_lt)) (precedes_inside folder (get_or xs i d).0 (get_or xs j d).0 (tree.ordered i j d lt j_lt))));
}

-- ---- parts of a path in a folder

-- the parts of both, one behind the other
pub parts_inside : (folder path : List ℕ) → parts_of (inside folder path) ≡ parts_of folder ++ parts_of path
parts_inside [] path = refl
parts_inside (x ∷ folder) path = by (parts_inside folder path) (x == 47) refl (parts_of folder) refl
  where
    by : parts_of (inside folder path) ≡ parts_of folder ++ parts_of path → (t : Bool) → (x == 47) ≡ t → (ps : List (List ℕ)) → parts_of folder ≡ ps → parts_of (inside (x ∷ folder) path) ≡ parts_of (x ∷ folder) ++ parts_of path
    by hyp true e ps f =
        slice_split-cons_yes (λ b. b == 47) x (inside folder path) e ∙ ap (λ l. [] ∷ l) hyp
        ∙ ap (λ l. l ++ parts_of path) (sym (slice_split-cons_yes (λ b. b == 47) x folder e))
    by hyp false e [] f = absurd (omega (arith, ap length f, length-slice_split (λ b. b == 47) folder))
    by hyp false e (p ∷ ps) f =
        slice_split-cons_no (λ b. b == 47) x (inside folder path) e ∙ ap (onto_first x) (hyp ∙ ap (λ l. l ++ parts_of path) f)
        ∙ ap (λ l. onto_first x l ++ parts_of path) (sym f)
        ∙ ap (λ l. l ++ parts_of path) (sym (slice_split-cons_no (λ b. b == 47) x folder e))

-- what stands in a folder is clean if its whole path is
pub clean_outside : (folder path : List ℕ) → IsClean (inside folder path) → IsClean path
clean_outside folder path clean = record {
  short = omega (arith, clean.short, length-append folder (47 ∷ path));
  parts = λ k d lt.
      let n = length-append (parts_of folder) (parts_of path) in
      let whole : All IsPart (parts_of folder ++ parts_of path) = (let P : List (List ℕ) → Type 0 = λ l. All IsPart l in subst P (parts_inside folder path) clean.parts) in
      let P : List ℕ → Type 0 = λ p. IsPart p in
      subst P (get_or-append-add (parts_of folder) (parts_of path) k d) (whole (length (parts_of folder) + k) d (omega (arith, n)));
}

-- ---- the entries under a folder

behind_is : (folder : List ℕ) (x y : List ℕ × Entry) → entry_behind (folder ++ 47 ∷ []) x ≡ Some y → (x.0 ≡ inside folder y.0) × (x.1 ≡ y.1)
behind_is folder x y h = by (rest_of (folder ++ 47 ∷ []) x.0) refl
  where
    by : (o : Option (List ℕ)) → rest_of (folder ++ 47 ∷ []) x.0 ≡ o → (x.0 ≡ inside folder y.0) × (x.1 ≡ y.1)
    by None e = absurd (let n : None ≡ Some y = sym (ap (option_map (λ r. (r, x.1))) e) ∙ h in cc)
    by (Some r) e =
        let s : Some (r, x.1) ≡ Some y = sym (ap (option_map (λ r. (r, x.1))) e) ∙ h in
        let t : (r, x.1) ≡ y = same_Some (r, x.1) y s in
        (rest_of_is (folder ++ 47 ∷ []) x.0 r e ∙ append_assoc folder (47 ∷ []) r ∙ ap (λ z. inside folder z.0) t, ap (λ z. z.1) t)

not_behind : (folder : List ℕ) (x : List ℕ × Entry) (q : List ℕ) → entry_behind (folder ++ 47 ∷ []) x ≡ None → x.0 ≡ inside folder q → ⊥
not_behind folder x q h e =
    let s : Some q ≡ rest_of (folder ++ 47 ∷ []) x.0 = rest_of_some (folder ++ 47 ∷ []) x.0 q (e ∙ sym (append_assoc folder (47 ∷ []) q)) in
    let n : ◌≡◌ {A = Option (List ℕ × Entry)} (Some (q, x.1)) None = ap (option_map (λ r. (r, x.1))) s ∙ h in cc

-- what holds inside the folder of each entry holds of each that is left
all_behind : (P : List ℕ → Type 0) (folder : List ℕ) (xs : List (List ℕ × Entry)) → All (λ x. (q : List ℕ) → x.0 ≡ inside folder q → P q) xs → All (λ y. P y.0) (entries_below folder xs)
all_behind P folder [] all = All-nil (λ y. P y.0)
all_behind P folder (x ∷ xs) all = by (all_behind P folder xs (All-tail (λ x. (q : List ℕ) → x.0 ≡ inside folder q → P q) x xs all)) (entry_behind (folder ++ 47 ∷ []) x) refl
  where
    by : All (λ y. P y.0) (entries_below folder xs) → (o : Option (List ℕ × Entry)) → entry_behind (folder ++ 47 ∷ []) x ≡ o → All (λ y. P y.0) (entries_below folder (x ∷ xs))
    by rest None e = let R : Option (List ℕ × Entry) → Type 0 = λ o. All (λ y. P y.0) (cons_option o (entries_below folder xs)) in subst R (sym e) rest
    by rest (Some y) e = let R : Option (List ℕ × Entry) → Type 0 = λ o. All (λ y. P y.0) (cons_option o (entries_below folder xs)) in subst R (sym e) (All-cons (λ y. P y.0) y (entries_below folder xs) (All-head (λ x. (q : List ℕ) → x.0 ≡ inside folder q → P q) x xs all y.0 (behind_is folder x y e).0) rest)

pairs_behind : (folder : List ℕ) (xs : List (List ℕ × Entry)) → AllPairs (λ a b. Precedes a.0 b.0) xs → AllPairs (λ a b. Precedes a.0 b.0) (entries_below folder xs)
pairs_behind folder [] all = λ i j d lt within. absurd (omega arith)
pairs_behind folder (x ∷ xs) all = by (pairs_behind folder xs (all_pairs_tail (λ a b. Precedes a.0 b.0) x xs all)) (entry_behind (folder ++ 47 ∷ []) x) refl
  where
    by : AllPairs (λ a b. Precedes a.0 b.0) (entries_below folder xs) → (o : Option (List ℕ × Entry)) → entry_behind (folder ++ 47 ∷ []) x ≡ o → AllPairs (λ a b. Precedes a.0 b.0) (entries_below folder (x ∷ xs))
    by rest None e = let R : Option (List ℕ × Entry) → Type 0 = λ o. AllPairs (λ a b. Precedes a.0 b.0) (cons_option o (entries_below folder xs)) in subst R (sym e) rest
    by rest (Some y) e =
        let R : Option (List ℕ × Entry) → Type 0 = λ o. AllPairs (λ a b. Precedes a.0 b.0) (cons_option o (entries_below folder xs)) in
        let first : All (λ z. Precedes x.0 z.0) xs = all_pairs_head (λ a b. Precedes a.0 b.0) x xs all in
        let here : x.0 ≡ inside folder y.0 = (behind_is folder x y e).0 in
        subst R (sym e) (AllPairs-cons (λ a b. Precedes a.0 b.0) y (entries_below folder xs)
        (all_behind (λ q. Precedes y.0 q) folder xs (λ k d lt q is.
        let S : List ℕ → Type 0 = λ z. Precedes z (inside folder q) in
        let T : List ℕ → Type 0 = λ z. Precedes x.0 z in
        precedes_outside folder y.0 q (subst S here (subst T is (first k d lt)))))
        rest)

pub tree_below : (folder : List ℕ) (xs : List (List ℕ × Entry)) → IsTree xs → IsTree (entries_below folder xs)
tree_below folder xs tree = record {
  clean = all_behind IsClean folder xs (λ k d lt q is. let P : List ℕ → Type 0 = λ z. IsClean z in clean_outside folder q (subst P is (tree.clean k d lt)));
  ordered = pairs_behind folder xs tree.ordered;
}

pub held_below : (folder : List ℕ) (xs : List (List ℕ × Entry)) (q : List ℕ) → entry_at (entries_below folder xs) q ≡ entry_at xs (inside folder q)
held_below folder [] q = refl
held_below folder (x ∷ xs) q = by (held_below folder xs q) (entry_behind (folder ++ 47 ∷ []) x) refl
  where
    by : entry_at (entries_below folder xs) q ≡ entry_at xs (inside folder q) → (o : Option (List ℕ × Entry)) → entry_behind (folder ++ 47 ∷ []) x ≡ o → entry_at (entries_below folder (x ∷ xs)) q ≡ entry_at (x ∷ xs) (inside folder q)
    by rest None e = ap (λ o. entry_at (cons_option o (entries_below folder xs)) q) e ∙ rest ∙ sym (at_cons_other x xs (inside folder q) (not_behind folder x q e))
    by rest (Some y) e = ap (λ o. entry_at (cons_option o (entries_below folder xs)) q) e ∙ at (bytes_eq y.0 q) refl
      where
        at : (t : Bool) → bytes_eq y.0 q ≡ t → entry_at (y ∷ entries_below folder xs) q ≡ entry_at (x ∷ xs) (inside folder q)
        at true f =
            let same : y.0 ≡ q = (bytes_eq-Decides y.0 q).0 f in
            at_cons_same y (entries_below folder xs) q same ∙ ap Some (sym (behind_is folder x y e).1) ∙ sym (at_cons_same x xs (inside folder q) ((behind_is folder x y e).0 ∙ ap (inside folder) same))
        at false f =
            let other : y.0 ≡ q → ⊥ = λ h. (let t = (bytes_eq-Decides y.0 q).1 h in cc) in
            at_cons_other y (entries_below folder xs) q other ∙ rest
            ∙ sym (at_cons_other x xs (inside folder q) (λ h. other (inside_same folder y.0 q (sym (behind_is folder x y e).0 ∙ h))))

-- ---- the folder `.`, and others

pub here_placed : (folder : List ℕ) → true ≡ bytes_eq folder (46 ∷ []) → placed folder ≡ (λ path. path)
here_placed folder e = λ i path. cond-true (bytes_eq folder (46 ∷ [])) path (inside folder path) (sym e) i

pub inside_placed : (folder : List ℕ) → false ≡ bytes_eq folder (46 ∷ []) → placed folder ≡ inside folder
inside_placed folder e = λ i path. cond-false (bytes_eq folder (46 ∷ [])) path (inside folder path) (sym e) i

pub picked_tree : (folder : List ℕ) (xs ys made : List (List ℕ × Entry)) → ys ≡ xs → IsTree xs → made ≡ entries_below folder ys → IsTree made
picked_tree folder xs ys made same tree is = tree_same (entries_below folder xs) made (is ∙ ap (entries_below folder) same) (tree_below folder xs tree)

pub pick_inside : (folder : List ℕ) (xs ys zs made : List (List ℕ × Entry)) → false ≡ bytes_eq folder (46 ∷ []) → ys ≡ xs → xs ≡ zs → IsTree xs → made ≡ entries_below folder ys → IsPick folder zs made
pick_inside folder xs ys zs made e same view tree is = record {
  is_tree = picked_tree folder xs ys made same tree is;
  held = λ path. ap (λ l. entry_at l path) (is ∙ ap (entries_below folder) same) ∙ held_below folder xs path ∙ ap (λ l. entry_at l (inside folder path)) view ∙ sym (ap (λ f. entry_at zs (f path)) (inside_placed folder e));
}

pub place_here : (folder : List ℕ) (xs ys : List (List ℕ × Entry)) → true ≡ bytes_eq folder (46 ∷ []) → ys ≡ xs → ys ≡ renamed (placed folder) xs
place_here folder xs ys e same = same ∙ sym (ap (λ f. renamed f xs) (here_placed folder e) ∙ map-id xs)

pub placed_tree : (folder : List ℕ) (xs ys made : List (List ℕ × Entry)) → ys ≡ xs → IsTree xs → made ≡ renamed (inside folder) ys → All (λ e. IsClean e.0) made → IsTree made
placed_tree folder xs ys made same tree is clean = tree_inside xs made folder tree (is ∙ ap (renamed (inside folder)) same) clean
