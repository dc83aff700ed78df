-- Where the line of a name is found.
use Rattle.std.proofs.Common.{◌≡◌, refl, sym, ◌∙◌, ap, subst, arith, ℕ, zero, suc, ◌<◌, ◌≤◌, Bool, true, false, cond, nat_eq, List, [], ◌∷◌, ◌++◌, length, get_or, take, drop, map, fold, None, bytes_eq}
use Rattle.std.specs.Ordering.{is_eq, nat_cmp}
use Rattle.std.specs.Bool.{OnTrue}
use Rattle.std.proofs.lemmas.Bool.{eqb-true}
use Rattle.std.specs.declared.cmp.Ordering.TheVariants.{Equal}
use Rattle.std.specs.Cmp.Lexicographic.{slice_cmp}
use Rattle.std.specs.Prelude.{HoldsAt}
use Rattle.std.proofs.lemmas.Map.Lookups.{exact_bytes}
use Rattle.std.proofs.lemmas.Map.Text.{is_eq-slice_cmp}
use Rattle.std.proofs.lemmas.List.{take_all, drop_all, length-map}
use Rattle.std.proofs.Math.ListN.{get_or-map}
use Rattle.meta_model.proofs.Bools.{or_left, or_right, differs, text_itself}
use Rattle.meta_model.specs.declared.value.KeyLine.{KeyLine}
use Rattle.meta_model.specs.Text.{is_in, into_order, in_byte_order}
use Rattle.task_model.specs.Scripts.{value_at}
use Rattle.meta_model.specs.Ascending.{Before, Above, Ascending}
use Rattle.meta_model.proofs.Ordered.{ordered_ascending}

-- the last name of a list in byte order

fold_last : (xs acc : List (List ℕ)) (x : List ℕ) → fold into_order acc (xs ++ x ∷ []) ≡ into_order (fold into_order acc xs) x
fold_last [] acc x = refl
fold_last (y ∷ ys) acc x = fold_last ys (into_order acc y) x

pub goes_behind : (xs : List (List ℕ)) (x : List ℕ) (i : ℕ) → in_byte_order xs ≡ xs → into_order xs x ≡ take i xs ++ (x ∷ drop i xs) → length xs ≤ i → in_byte_order (xs ++ x ∷ []) ≡ xs ++ x ∷ []
goes_behind xs x i ordered put past =
    fold_last xs [] x ∙ ap (λ l. into_order l x) ordered ∙ put ∙ ap (λ l. l ++ (x ∷ drop i xs)) (take_all i xs past) ∙ ap (λ l. xs ++ (x ∷ l)) (drop_all i xs past)

pub goes_if : (xs : List (List ℕ)) (x : List ℕ) (i : ℕ) → in_byte_order xs ≡ xs → into_order xs x ≡ take i xs ++ (x ∷ drop i xs) → (b : Bool) → nat_eq i (length xs) ≡ b → OnTrue b (in_byte_order (xs ++ x ∷ []) ≡ xs ++ x ∷ [])
goes_if xs x i ordered put true e = let same : i ≡ length xs = eqb-true i (length xs) e in goes_behind xs x i ordered put (omega arith)
goes_if xs x i ordered put false e = tt

-- the line of a name, where names ascend

before_line : (y : List ℕ) (lines : List KeyLine) (i : ℕ) (x : KeyLine) → Above y (map (λ line. line.name) lines) → i < length lines → x ≡ get_or lines i x → Before y x.name
before_line y [] i x a lt is = absurd (omega (arith, lt))
before_line y (l ∷ lines) zero x a lt is = subst (λ z. Before y z.name) (sym is) a.0
before_line y (l ∷ lines) (suc i) x a lt is = before_line y lines i x a.1 (omega (arith, lt)) is

pub value_there : (lines : List KeyLine) (i : ℕ) (name : List ℕ) (x : KeyLine) → Ascending (map (λ line. line.name) lines) → i < length lines → x ≡ get_or lines i x → x.name ≡ name → x.value ≡ value_at lines name
value_there [] i name x a lt is e = absurd (omega (arith, lt))
value_there (l ∷ lines) zero name x a lt is e =
    let same : bytes_eq l.name name ≡ true = subst (λ n. bytes_eq l.name n ≡ true) (sym (ap (λ z. z.name) is) ∙ e) (text_itself l.name) in
    ap (λ z. z.value) is ∙ sym (ap (λ b. cond b l.value (value_at lines name)) same)
value_there (l ∷ lines) (suc i) name x a lt is e =
    let before : Before l.name name = subst (Before l.name) e (before_line l.name lines i x a.0 (omega (arith, lt)) is) in
    let other : bytes_eq l.name name ≡ false = sym (is_eq-slice_cmp l.name name) ∙ ap is_eq before in
    value_there lines i name x a.1 (omega (arith, lt)) is e ∙ sym (ap (λ b. cond b l.value (value_at lines name)) other)

pub value_away : (lines : List KeyLine) (name : List ℕ) → is_in name (map (λ line. line.name) lines) ≡ false → None ≡ value_at lines name
value_away [] name h = refl
value_away (l ∷ lines) name h =
    let other : bytes_eq l.name name ≡ false = differs name l.name (or_left (bytes_eq name l.name) (is_in name (map (λ line. line.name) lines)) h) in
    value_away lines name (or_right (bytes_eq name l.name) (is_in name (map (λ line. line.name) lines)) h) ∙ sym (ap (λ b. cond b l.value (value_at lines name)) other)

-- where the names of lines are searched

pub found_there : (lines : List KeyLine) (names : List (List ℕ)) (name : List ℕ) (i : ℕ) (x : KeyLine) → names ≡ map (λ line. line.name) lines → in_byte_order names ≡ names → i < length names → HoldsAt (λ y. slice_cmp nat_cmp y name ≡ Equal) names i → x ≡ get_or lines i x → x.value ≡ value_at lines name
found_there lines names name i x e ordered lt holds is =
    let ascends : Ascending (map (λ line. line.name) lines) = subst Ascending (ordered ∙ e) (ordered_ascending names) in
    let at : get_or names i x.name ≡ x.name = ap (λ l. get_or l i x.name) e ∙ get_or-map (λ (line : KeyLine). line.name) lines i x ∙ ap (λ (line : KeyLine). line.name) (sym is) in
    let same : x.name ≡ name = exact_bytes x.name name (subst (λ n. slice_cmp nat_cmp n name ≡ Equal) at (holds x.name)) in
    value_there lines i name x ascends (subst (λ n. i < n) (ap length e ∙ length-map lines (λ (line : KeyLine). line.name)) lt) is same

pub found_away : (lines : List KeyLine) (names : List (List ℕ)) (name : List ℕ) → names ≡ map (λ line. line.name) lines → is_in name names ≡ false → None ≡ value_at lines name
found_away lines names name e h = value_away lines name (subst (λ l. is_in name l ≡ false) e h)
