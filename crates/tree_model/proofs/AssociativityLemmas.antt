-- When three trees laid over each other give one tree, whichever two are joined first.
use Rattle.std.proofs.Common.{◌≡◌, ◌∙◌, ◌⊎◌, inl, inr, sym, ap, subst, refl, ℕ, List, [], ◌∷◌, ◌++◌, get_or, All, Option, Some, None, append_assoc}
use Rattle.std.specs.Prelude.{IsSome, ◌↔◌}
use Rattle.std.proofs.lemmas.List.{get_or_default}
use Rattle.tree_model.specs.declared.entry.Entry.{Entry}
use Rattle.tree_model.specs.declared.entry.Entry.TheVariants.{Link}
use Rattle.tree_model.specs.Path.{IsBelow}
use Rattle.tree_model.specs.Tree.{IsTree, entry_at}
use Rattle.tree_model.specs.Overlay.{Meets, IsFree, IsMet, IsOverlay, KeepsFiles}
use Rattle.tree_model.proofs.TreeLemmas.{place_held}
use Rattle.tree_model.proofs.EditLemmas.{held_at}
use Rattle.tree_model.proofs.LawLemmas.{same_trees, met_or_free, held_where_met}

-- ---- paths

below_trans : (a b c : List ℕ) → IsBelow a b → IsBelow b c → IsBelow a c
below_trans a b c h k = (h.0 ++ 47 ∷ k.0, k.1 ∙ ap (λ l. l ++ 47 ∷ k.0) h.1 ∙ append_assoc a (47 ∷ h.0) (47 ∷ k.0))

one_on : (x : ℕ) (a b : List ℕ) → Meets a b → Meets (x ∷ a) (x ∷ b)
one_on x a b (inl (inl e)) = inl (inl (ap (λ l. x ∷ l) e))
one_on x a b (inl (inr h)) = inl (inr (h.0, ap (λ l. x ∷ l) h.1))
one_on x a b (inr h) = inr (h.0, ap (λ l. x ∷ l) h.1)

tail_same : (x y : ℕ) (a b : List ℕ) → ◌≡◌ {A = List ℕ} (x ∷ a) (y ∷ b) → a ≡ b
tail_same x y a b e = cc

head_same : (x y : ℕ) (a b : List ℕ) → ◌≡◌ {A = List ℕ} (x ∷ a) (y ∷ b) → x ≡ y
head_same x y a b e = cc

-- two paths above one path meet
above_meet : (a b r s : List ℕ) → a ++ 47 ∷ r ≡ b ++ 47 ∷ s → Meets a b
above_meet [] [] r s e = inl (inl refl)
above_meet [] (y ∷ b) r s e = inl (inr (b, ap (λ z. z ∷ b) (sym (head_same 47 y r (b ++ 47 ∷ s) e))))
above_meet (x ∷ a) [] r s e = inr (a, ap (λ z. z ∷ a) (head_same x 47 (a ++ 47 ∷ r) s e))
above_meet (x ∷ a) (y ∷ b) r s e =
    let P : ℕ → Type 0 = λ z. Meets (x ∷ a) (z ∷ b) in
    subst P (head_same x y (a ++ 47 ∷ r) (b ++ 47 ∷ s) e) (one_on x a b (above_meet a b r s (tail_same x y (a ++ 47 ∷ r) (b ++ 47 ∷ s) e)))

-- ---- what is held and what meets it

met_at : (xs : List (List ℕ × Entry)) (p q : List ℕ) → IsSome (entry_at xs q) → Meets p q → IsMet xs p
met_at xs p q held meets =
    let place = place_held xs q held in
    let P : List ℕ → Type 0 = λ z. Meets p z in
    (place.0, get_or xs place.0 ([], Link []), place.1.0, get_or_default xs place.0 (get_or xs place.0 ([], Link [])) ([], Link []) place.1.0, subst P (sym (place.1.1 ([], Link []))) meets)

is_held : (xs : List (List ℕ × Entry)) (q : List ℕ) (v : Entry) → entry_at xs q ≡ Some v → IsSome (entry_at xs q)
is_held xs q v e = let P : Option Entry → Type 0 = λ o. IsSome o in subst P (sym e) refl

-- the path of what meets
pub record MetBy (xs : List (List ℕ × Entry)) (p : List ℕ) : Type 0 where
  pub path : List ℕ
  pub held : IsSome (entry_at xs path)
  pub meets : Meets p path

met_by : (xs : List (List ℕ × Entry)) (p : List ℕ) → IsTree xs → IsMet xs p → MetBy xs p
met_by xs p tree met = record {
  path = met.1.0;
  held = (let P : List ℕ × Entry → Type 0 = λ e. IsSome (entry_at xs e.0) in subst P met.3 (held_at xs met.0 met.1 tree met.2));
  meets = met.4;
}

-- what the last tree holds, the joined ones hold
last_in_later : (b c bc : List (List ℕ × Entry)) (q : List ℕ) → IsOverlay b c bc → IsSome (entry_at c q) → IsSome (entry_at bc q)
last_in_later b c bc q o held = let P : Option Entry → Type 0 = λ x. IsSome x in subst P (sym (o.laid q held)) held

last_met : (b c bc : List (List ℕ × Entry)) (q : List ℕ) → IsTree c → IsOverlay b c bc → IsMet c q → IsMet bc q
last_met b c bc q tc o met = let by = met_by c q tc met in met_at bc q by.path (last_in_later b c bc by.path o by.held) by.meets

-- where nothing of the last tree meets a path of the middle one, the joined ones hold it
middle_in_later : (b c bc : List (List ℕ × Entry)) (q : List ℕ) → IsOverlay b c bc → IsFree c q → IsSome (entry_at b q) → IsSome (entry_at bc q)
middle_in_later b c bc q o free held = let P : Option Entry → Type 0 = λ x. IsSome x in subst P (sym (o.left q free)) held

same_path : (q : List ℕ) → Meets q q
same_path q = inl (inl refl)

-- ---- the law

-- all that the middle tree removes of the first one, the joined ones remove too
abbrev pub Removes : List (List ℕ × Entry) → List (List ℕ × Entry) → List (List ℕ × Entry) → Type 0
Removes a b bc = All (λ e. IsMet b e.0 → IsMet bc e.0) a

first_gone : (a b bc : List (List ℕ × Entry)) (q : List ℕ) → IsTree a → Removes a b bc → IsMet b q → IsFree bc q → entry_at a q ≡ None
first_gone a b bc q ta removes met free = by (entry_at a q) refl
  where
    by : (o : Option Entry) → entry_at a q ≡ o → entry_at a q ≡ None
    by None e = e
    by (Some v) e =
        let place = place_held a q (is_held a q v e) in
        let here : (get_or a place.0 ([], Link [])).0 ≡ q = place.1.1 ([], Link []) in
        let P : List ℕ → Type 0 = λ z. IsMet b z in
        let Q : List ℕ → Type 0 = λ z. IsMet bc z in
        let m : IsMet bc q = subst Q here (removes place.0 ([], Link []) place.1.0 (subst P (sym here) met)) in
        let R : List ℕ → Type 0 = λ z. Meets q z in
        absurd (free m.0 m.1 m.2 (subst R (sym (ap (λ x. x.0) m.3)) m.4))

middle_gone : (b c bc : List (List ℕ × Entry)) (q : List ℕ) → IsOverlay b c bc → IsFree c q → IsFree bc q → entry_at b q ≡ None
middle_gone b c bc q o free later = by (entry_at b q) refl
  where
    by : (p : Option Entry) → entry_at b q ≡ p → entry_at b q ≡ None
    by None e = e
    by (Some v) e =
        let m = met_at bc q q (middle_in_later b c bc q o free (is_held b q v e)) (same_path q) in
        let R : List ℕ → Type 0 = λ z. Meets q z in
        absurd (later m.0 m.1 m.2 (subst R (sym (ap (λ x. x.0) m.3)) m.4))

-- what meets a path in the joined trees, where nothing of the last does, meets it in the middle one
met_in_middle : (b c bc : List (List ℕ × Entry)) (q : List ℕ) → IsTree b → IsTree c → IsOverlay b c bc → IsFree c q → IsMet bc q → IsMet b q
met_in_middle b c bc q tb tc o free met = at (met_or_free c by.path)
  where
    by : MetBy bc q
    by = met_by bc q o.tree met

    at : IsMet c by.path ⊎ IsFree c by.path → IsMet b q
    at (inr f) = met_at b q by.path (let P : Option Entry → Type 0 = λ x. IsSome x in subst P (o.left by.path f) by.held) by.meets
    at (inl m) =
        let same : entry_at bc by.path ≡ entry_at c by.path = held_where_met b c bc by.path tc o m in
        let held : IsSome (entry_at c by.path) = (let P : Option Entry → Type 0 = λ x. IsSome x in subst P same by.held) in
        let n = met_at c q by.path held by.meets in
        let R : List ℕ → Type 0 = λ z. Meets q z in
        absurd (free n.0 n.1 n.2 (subst R (sym (ap (λ x. x.0) n.3)) n.4))

pub associates : (a b c ab bc x y : List (List ℕ × Entry)) → IsTree a → IsTree b → IsTree c → IsOverlay a b ab → IsOverlay b c bc → IsOverlay ab c x → IsOverlay a bc y → Removes a b bc → x ≡ y
associates a b c ab bc x y ta tb tc oab obc ox oy removes = same_trees x y ox.tree oy.tree (λ q. by q (met_or_free c q) (met_or_free bc q) (met_or_free b q))
  where
    by : (q : List ℕ) → IsMet c q ⊎ IsFree c q → IsMet bc q ⊎ IsFree bc q → IsMet b q ⊎ IsFree b q → entry_at x q ≡ entry_at y q
    by q (inl m) _ _ =
        held_where_met ab c x q tc ox m ∙ sym (held_where_met b c bc q tc obc m) ∙ sym (held_where_met a bc y q obc.tree oy (last_met b c bc q tc obc m))
    by q (inr f) (inl m) _ =
        ox.left q f ∙ held_where_met a b ab q tb oab (met_in_middle b c bc q tb tc obc f m) ∙ sym (obc.left q f) ∙ sym (held_where_met a bc y q obc.tree oy m)
    by q (inr f) (inr g) (inr h) = ox.left q f ∙ oab.left q h ∙ sym (oy.left q g)
    by q (inr f) (inr g) (inl h) =
        ox.left q f ∙ held_where_met a b ab q tb oab h ∙ middle_gone b c bc q obc f g ∙ sym (first_gone a b bc q ta removes h g) ∙ sym (oy.left q g)

-- and only then
pub associates_only : (a b c ab bc x y : List (List ℕ × Entry)) → IsTree a → IsTree b → IsTree c → IsOverlay a b ab → IsOverlay b c bc → IsOverlay ab c x → IsOverlay a bc y → x ≡ y → Removes a b bc
associates_only a b c ab bc x y ta tb tc oab obc ox oy same k d lt met = by (met_or_free bc (get_or a k d).0) (met_or_free c (get_or a k d).0)
  where
    by : IsMet bc (get_or a k d).0 ⊎ IsFree bc (get_or a k d).0 → IsMet c (get_or a k d).0 ⊎ IsFree c (get_or a k d).0 → IsMet bc (get_or a k d).0
    by (inl m) _ = m
    by (inr g) (inl m) = last_met b c bc (get_or a k d).0 tc obc m
    by (inr g) (inr f) =
        let held : IsSome (entry_at a (get_or a k d).0) = held_at a k d ta lt in
        let e : entry_at a (get_or a k d).0 ≡ entry_at b (get_or a k d).0 = sym (oy.left (get_or a k d).0 g) ∙ sym (ap (λ l. entry_at l (get_or a k d).0) same) ∙ ox.left (get_or a k d).0 f ∙ held_where_met a b ab (get_or a k d).0 tb oab met in
        let P : Option Entry → Type 0 = λ o. IsSome o in
        met_at bc (get_or a k d).0 (get_or a k d).0 (middle_in_later b c bc (get_or a k d).0 obc f (subst P e held)) (same_path (get_or a k d).0)

pub associates_just_where : (a b c ab bc x y : List (List ℕ × Entry)) → IsTree a → IsTree b → IsTree c → IsOverlay a b ab → IsOverlay b c bc → IsOverlay ab c x → IsOverlay a bc y → (x ≡ y) ↔ Removes a b bc
associates_just_where a b c ab bc x y ta tb tc oab obc ox oy =
    (associates_only a b c ab bc x y ta tb tc oab obc ox oy, associates a b c ab bc x y ta tb tc oab obc ox oy)

-- ---- a condition that is easy to meet

-- what meets a path that a path meets, and doesn't lie below it, meets that path
meets_on : (p z w : List ℕ) → Meets p z → Meets z w → (IsBelow z w → ⊥) → Meets p w
meets_on p z w m (inl (inr h)) not_below = absurd (not_below h)
meets_on p z w m (inl (inl e)) not_below = let P : List ℕ → Type 0 = λ l. Meets p l in subst P (sym e) m
meets_on p z w (inl (inl e)) (inr h) not_below = let P : List ℕ → Type 0 = λ l. IsBelow w l in inr (subst P e h)
meets_on p z w (inl (inr k)) (inr h) not_below = above_meet p w k.0 h.0 (sym k.1 ∙ h.1)
meets_on p z w (inr k) (inr h) not_below = inr (below_trans w z p h k)

not_below_at : (b c : List (List ℕ × Entry)) (z w : List ℕ) → KeepsFiles b c → IsSome (entry_at b z) → IsSome (entry_at c w) → IsBelow z w → ⊥
not_below_at b c z w keeps hz hw below =
    let i = place_held b z hz in
    let j = place_held c w hw in
    let P : List ℕ → Type 0 = λ l. IsBelow l (get_or c j.0 ([], Link [])).0 in
    let Q : List ℕ → Type 0 = λ l. IsBelow z l in
    keeps i.0 ([], Link []) i.1.0 j.0 ([], Link []) j.1.0 (subst P (sym (i.1.1 ([], Link []))) (subst Q (sym (j.1.1 ([], Link []))) below))

pub removes_too : (a b c bc : List (List ℕ × Entry)) → IsTree b → IsTree c → IsOverlay b c bc → KeepsFiles b c → Removes a b bc
removes_too a b c bc tb tc o keeps k d lt met = at (met_or_free c by.path)
  where
    by : MetBy b (get_or a k d).0
    by = met_by b (get_or a k d).0 tb met

    at : IsMet c by.path ⊎ IsFree c by.path → IsMet bc (get_or a k d).0
    at (inr f) = met_at bc (get_or a k d).0 by.path (middle_in_later b c bc by.path o f by.held) by.meets
    at (inl m) =
        let last : MetBy c by.path = met_by c by.path tc m in
        met_at bc (get_or a k d).0 last.path (last_in_later b c bc last.path o last.held)
        (meets_on (get_or a k d).0 by.path last.path by.meets last.meets (not_below_at b c by.path last.path keeps by.held last.held))
