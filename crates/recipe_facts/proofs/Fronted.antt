-- The fronts of names, and the names in order.
use Rattle.std.proofs.Common.{◌≡◌, refl, sym, ◌∙◌, ap, ℕ, ◌+◌, ◌<◌, List, [], ◌∷◌, ◌++◌, length, take, drop, get_or, map, filter, flat_map, Bool, true, false, ◌||◌, ◌&&◌, cond, inl, inr, bytes_eq, is_some, add-one, append_assoc, String, BTreeMap, Option, Some, None}
use Rattle.std.specs.Global.{Global}
use Rattle.std.proofs.Math.Seq.{drop-cons}
use Rattle.std.specs.BTreeMap.{get_by_text, IsOrdered}
use Rattle.std.specs.String.{string_cmp}
use Rattle.std.proofs.lemmas.List.{take_more}
use Rattle.std.proofs.lemmas.List.Folds.{list_any-append}
use Rattle.std.proofs.lemmas.List.Concat.{flat_map-append}
use Rattle.meta_model.proofs.Bools.{either_way, same_text, text_itself, differs}
use Rattle.meta_model.specs.Text.{is_in, is_empty, begins_with, colon, cuts, in_byte_order}
use Rattle.value_maps.specs.Picked.{picked, passes}
use Rattle.meta_model.proofs.Ordered.{ascending_same, ordered_ascending, ordered_in}
use Rattle.value_maps.proofs.Picked.{picked_ascending, picked_in}
use Rattle.load_model.specs.Facts.{fronts_of}
use Rattle.recipe_facts.specs.Fronts.{is_behind, longer_fronts}

pub turned : (a b : List ℕ) → bytes_eq a b ≡ bytes_eq b a
turned a b = elim (either_way (bytes_eq a b)) [
  | inl t ↦ t ∙ sym (ap (λ x. bytes_eq x a) (sym (same_text a b t)) ∙ text_itself a)
  | inr f ↦ f ∙ sym (differs a b f)
]

-- the fronts of a name, found from the front

abbrev front_cut : List ℕ × List ℕ → Bool
front_cut cut = is_empty cut.1 || begins_with (colon ∷ []) cut.1

fronts_behind : (c : ℕ) (xs : List (List ℕ × List ℕ)) → map (λ (cut : List ℕ × List ℕ). cut.0) (filter front_cut (map (λ x. (c ∷ x.0, x.1)) xs)) ≡ map (λ f. c ∷ f) (map (λ (cut : List ℕ × List ℕ). cut.0) (filter front_cut xs))
fronts_behind c [] = refl
fronts_behind c (x ∷ xs) = elim (either_way (front_cut x)) [
  | inl t ↦ rw t (ap (λ l. (c ∷ x.0) ∷ l) (fronts_behind c xs))
  | inr f ↦ rw f (fronts_behind c xs)
]

first_front : (c : ℕ) (rest : List ℕ) → fronts_of (c ∷ rest) ≡ cond (is_behind rest) ((c ∷ []) ∷ []) [] ++ map (λ f. c ∷ f) (fronts_of rest)
first_front c rest = elim (either_way (is_behind rest)) [
  | inl t ↦ rw t (ap (λ l. (c ∷ []) ∷ l) (fronts_behind c (cuts rest)))
  | inr f ↦ rw f (fronts_behind c (cuts rest))
]

map_all : (part : List ℕ) (c : ℕ) (xs : List (List ℕ)) → map (λ f. (part ++ c ∷ []) ++ f) xs ≡ map (λ f. part ++ f) (map (λ f. c ∷ f) xs)
map_all part c [] = refl
map_all part c (x ∷ xs) = ap (λ y. y ∷ map (λ f. (part ++ c ∷ []) ++ f) xs) (append_assoc part (c ∷ []) x) ∙ ap (λ l. (part ++ c ∷ x) ∷ l) (map_all part c xs)

fronts_are : (part rest : List ℕ) → longer_fronts part rest ≡ map (λ f. part ++ f) (fronts_of rest)
fronts_are part [] = refl
fronts_are part (c ∷ rest) =
    let later = fronts_are (part ++ c ∷ []) rest ∙ map_all part c (fronts_of rest) in
    ap (λ l. cond (is_behind rest) ((part ++ c ∷ []) ∷ []) [] ++ l) later ∙ joined (is_behind rest) (map (λ f. c ∷ f) (fronts_of rest)) ∙ ap (map (λ f. part ++ f)) (sym (first_front c rest))
  where
    joined : (b : Bool) (xs : List (List ℕ)) → cond b ((part ++ c ∷ []) ∷ []) [] ++ map (λ f. part ++ f) xs ≡ map (λ f. part ++ f) (cond b ((c ∷ []) ∷ []) [] ++ xs)
    joined true xs = refl
    joined false xs = refl

map_itself : (xs : List (List ℕ)) → map (λ (f : List ℕ). f) xs ≡ xs
map_itself [] = refl
map_itself (x ∷ xs) = ap (λ l. x ∷ l) (map_itself xs)

pub fronts_begin : (name t : List ℕ) (set : Bool) → (is_in t (longer_fronts [] name) || set) ≡ (is_in t (fronts_of name) || set)
fronts_begin name t set = ap (λ l. is_in t l || set) (fronts_are [] name ∙ map_itself (fronts_of name))

put_one : (b d set : Bool) (x t : List ℕ) (more : List (List ℕ)) → bytes_eq t x ≡ d → (is_in t more || ((b && d) || set)) ≡ (is_in t (cond b (x ∷ []) [] ++ more) || set)
put_one true d set x t more e = rw e (swap (is_in t more) d set)
  where
    swap : (a b c : Bool) → (a || (b || c)) ≡ ((b || a) || c)
    swap true true c = refl
    swap true false c = refl
    swap false true c = refl
    swap false false c = refl
put_one false d set x t more e = refl

pub fronts_go_on : (name t : List ℕ) (end : ℕ) (set set' goal : Bool) → end < length name → (is_in t (longer_fronts (take end name) (drop end name)) || set) ≡ goal → set' ≡ ((is_behind (drop (end + 1) name) && bytes_eq t (take (end + 1) name)) || set)
    → (is_in t (longer_fronts (take (end + 1) name) (drop (end + 1) name)) || set') ≡ goal
fronts_go_on name t end set set' goal lt h e =
    let c = get_or name end 0 in
    let rest = drop (end + 1) name in
    let part : take (end + 1) name ≡ take end name ++ c ∷ [] = take_more name end 0 lt in
    let next : drop end name ≡ c ∷ rest = drop-cons name end 0 lt ∙ ap (λ j. c ∷ drop j name) (sym (add-one end)) in
    ap (λ s. is_in t (longer_fronts (take (end + 1) name) rest) || s) e
    ∙ put_one (is_behind rest) (bytes_eq t (take (end + 1) name)) set (take (end + 1) name) t (longer_fronts (take (end + 1) name) rest) refl
    ∙ ap (λ p. is_in t (cond (is_behind rest) (p ∷ []) [] ++ longer_fronts p rest) || set) part
    ∙ ap (λ d. is_in t (longer_fronts (take end name) d) || set) (sym next)
    ∙ h

-- the fronts of all names

or_turned : (a b : Bool) → (a || b) ≡ (b || a)
or_turned true true = refl
or_turned true false = refl
or_turned false true = refl
or_turned false false = refl

pub all_go_on : (names : List (List ℕ)) (i : ℕ) (x t : List ℕ) (set set' : Bool) → x ≡ get_or names i x → i < length names → set ≡ is_in t (flat_map fronts_of (take i names)) → set' ≡ (is_in t (fronts_of x) || set) → set' ≡ is_in t (flat_map fronts_of (take (i + 1) names))
all_go_on names i x t set set' is lt h e =
    let more : take (i + 1) names ≡ take i names ++ x ∷ [] = take_more names i x lt ∙ ap (λ y. take i names ++ y ∷ []) (sym is) in
    e ∙ ap (λ s. is_in t (fronts_of x) || s) h ∙ or_turned (is_in t (fronts_of x)) (is_in t (flat_map fronts_of (take i names)))
    ∙ sym (list_any-append (bytes_eq t) (flat_map fronts_of (take i names)) (fronts_of x))
    ∙ ap (λ l. is_in t (flat_map fronts_of (take i names) ++ l)) (sym (one (fronts_of x)))
    ∙ ap (is_in t) (sym (flat_map-append fronts_of (take i names) (x ∷ [])) ∙ ap (flat_map fronts_of) (sym more))
  where
    one : (l : List (List ℕ)) → l ++ [] ≡ l
    one [] = refl
    one (y ∷ l) = ap (λ k. y ∷ k) (one l)

some_passes : (o : Option (Unit {0})) → passes (λ there. true) o ≡ is_some o
some_passes None = refl
some_passes (Some x) = refl

-- the texts of a set, in byte order
pub set_is : (m : BTreeMap (String Global) (Unit {0})) (list xs : List (List ℕ)) → list ≡ picked (λ there. true) m.entries → IsOrdered string_cmp m → ((t : List ℕ) → is_some (get_by_text m t) ≡ is_in t xs) → list ≡ in_byte_order xs
set_is m list xs e ordered same =
    e ∙ ascending_same (picked (λ there. true) m.entries) (in_byte_order xs) (picked_ascending (λ there. true) m.entries ordered) (ordered_ascending xs)
    (λ t. picked_in (λ there. true) m.entries t ordered ∙ some_passes (get_by_text m t) ∙ same t ∙ sym (ordered_in xs t))
