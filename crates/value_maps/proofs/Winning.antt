-- The form that is chosen among the noted ones is the winning form.
use Rattle.std.proofs.Common.{◌≡◌, refl, sym, ◌∙◌, ap, subst, arith, ℕ, zero, suc, ◌+◌, ◌<◌, List, [], ◌∷◌, ◌++◌, length, take, drop, get_or, slice_index, true, false, ◌&&◌, Option, Some, None, is_some, option_to_list, ◌⊎◌, inl, inr, bytes_eq, nat_eq, append_assoc, length-append, codes}
use Rattle.std.specs.List.{slice_split, starts_with}
use Rattle.std.specs.Option.{option_map}
use Rattle.meta_model.proofs.Bools.{not_both, either_way, and_left, and_right, both, or_first, or_second, from_or, same_text, text_itself}
use Rattle.meta_model.proofs.Winner.{winning_wins, has_one_winner, in_filter, filter_passes, form_begins, form_rest, form_active, form_front}
use Rattle.meta_model.specs.declared.entry.EntryLine.{EntryLine}
use Rattle.meta_model.specs.declared.entry.Late.TheVariants.{Remove}
use Rattle.meta_model.specs.declared.value.Resolved.{Resolved}
use Rattle.meta_model.specs.Text.{colon, is_colon, is_in}
use Rattle.meta_model.specs.Slot.{at_end}
use Rattle.meta_model.specs.Base.{base, lates}
use Rattle.meta_model.specs.Overrides.{form_value, form_removes, flag_if_set, texts_of, all_active, own, parts_behind, is_form, beats, form_beats, winning, IsWinning, with_lates}
use Rattle.override_eval.specs.LateValue.{late_value, with_removes}
use Rattle.override_eval.specs.Winner.{parts, is_counted, IsWinner}
use Rattle.value_maps.specs.declared.maps.Maps.{Maps}
use Rattle.value_maps.specs.declared.named.Named.{Named}
use Rattle.value_maps.specs.Named.{slot_at, lates_at}
use Rattle.value_maps.specs.Maps.{named_at, noted_at, Keeps}
use Rattle.value_maps.specs.Found.{own_at, form_of, is_present, present_forms, own_of, told_flag, joined_at}

-- places in a list

pub in_place : (t : List ℕ) (list : List (List ℕ)) → is_in t list ≡ true → (k : ℕ) × (k < length list) × (get_or list k [] ≡ t)
in_place t [] h = not_both false h refl
in_place t (x ∷ list) h = elim (either_way (bytes_eq t x)) [
  | inl e ↦ (0, omega arith, sym (same_text t x e))
  | inr e ↦ let later = in_place t list (from_or (bytes_eq t x) (is_in t list) h e) in (suc later.0, omega (arith, later.1), later.2)
]

pub at_place : (list : List (List ℕ)) (k : ℕ) → k < length list → is_in (get_or list k []) list ≡ true
at_place [] k h = absurd (omega arith)
at_place (x ∷ list) zero h = or_first (bytes_eq x x) (is_in x list) (text_itself x)
at_place (x ∷ list) (suc k) h = elim (either_way (bytes_eq (get_or list k []) x)) [
  | inl e ↦ or_first (bytes_eq (get_or list k []) x) (is_in (get_or list k []) list) e
  | inr e ↦ or_second (bytes_eq (get_or list k []) x) (is_in (get_or list k []) list) e (at_place list k (omega arith))
]

-- the parts of a form

drop_front : (name rest : List ℕ) → drop (length name) (name ++ rest) ≡ rest
drop_front [] rest = refl
drop_front (c ∷ name) rest = drop_front name rest

pub drop_form : (name rest : List ℕ) → drop (length name + 1) (form_of name rest) ≡ rest
drop_form name rest =
    ap (drop (length name + 1)) (sym (append_assoc name (colon ∷ []) rest)) ∙ ap (λ n. drop n ((name ++ (colon ∷ [])) ++ rest)) (sym (length-append name (colon ∷ []))) ∙ drop_front (name ++ (colon ∷ [])) rest

begins : (name rest : List ℕ) → starts_with nat_eq (name ++ rest) name ≡ true
begins name rest = ap (λ t. bytes_eq name t) (take_front name rest) ∙ text_itself name
  where
    take_front : (a b : List ℕ) → take (length a) (a ++ b) ≡ a
    take_front [] b = refl
    take_front (c ∷ a) b = ap (λ t. c ∷ t) (take_front a b)

-- the own value that the maps give is that of the entries

some_mapped : {A B : Type 0} (f : A → B) (o : Option A) → is_some (option_map f o) ≡ is_some o
some_mapped f None = refl
some_mapped f (Some a) = refl

pub own_is : (list : List EntryLine) (maps : Maps) (active : List (List ℕ)) (form : List ℕ) → Keeps list maps → own_at active (named_at maps form) ≡ late_value active (base list form) (lates list form)
own_is list maps active form keeps =
    ap (λ s. late_value active (at_end s) (lates_at (named_at maps form))) (keeps.value form) ∙ ap (late_value active (base list form)) (keeps.late form)

own_some : (list : List EntryLine) (maps : Maps) (active : List (List ℕ)) (form : List ℕ) → Keeps list maps → is_some (own_at active (named_at maps form)) ≡ is_some (own list active form)
own_some list maps active form keeps =
    ap is_some (own_is list maps active form keeps) ∙ some_mapped (with_removes active (lates list form)) (own list active form)

-- what is present is a form

pub present_is_form : (list : List EntryLine) (maps : Maps) (active : List (List ℕ)) (name rest : List ℕ) → Keeps list maps → is_in rest (present_forms maps active name) ≡ true → is_form list active name (form_of name rest) ≡ true
present_is_form list maps active name rest keeps h =
    let there = filter_passes (is_present maps active name) (noted_at maps name) rest h in
    let counted : all_active active (parts_behind name (form_of name rest)) ≡ true = ap (λ t. all_active active (slice_split is_colon t)) (drop_form name rest) ∙ and_left (is_counted active rest) (is_some (own_at active (named_at maps (form_of name rest)))) there in
    let own_there = sym (own_some list maps active (form_of name rest) keeps) ∙ and_right (is_counted active rest) (is_some (own_at active (named_at maps (form_of name rest)))) there in
    let begun : starts_with nat_eq (form_of name rest) (name ++ (colon ∷ [])) ≡ true = ap (λ t. starts_with nat_eq t (name ++ (colon ∷ []))) (sym (append_assoc name (colon ∷ []) rest)) ∙ begins (name ++ (colon ∷ [])) rest in
    both (starts_with nat_eq (form_of name rest) (name ++ (colon ∷ []))) (all_active active (parts_behind name (form_of name rest)) && is_some (own list active (form_of name rest))) begun
    (both (all_active active (parts_behind name (form_of name rest))) (is_some (own list active (form_of name rest))) counted own_there)

-- and a form is present

kept_or_not : (o : Option Named) → (is_some o ≡ true) ⊎ (o ≡ None)
kept_or_not None = inr refl
kept_or_not (Some n) = inl refl

none_own : (list : List EntryLine) (maps : Maps) (active : List (List ℕ)) (form : List ℕ) → Keeps list maps → named_at maps form ≡ None → own list active form ≡ None
none_own list maps active form keeps e =
    ap (λ l. with_lates active l (base list form)) (sym (keeps.late form) ∙ ap lates_at e)
    ∙ ap (λ s. with_lates active [] (at_end s)) (sym (keeps.value form) ∙ ap slot_at e)

pub form_kept : (list : List EntryLine) (maps : Maps) (active : List (List ℕ)) (form : List ℕ) → Keeps list maps → is_some (own list active form) ≡ true → is_some (named_at maps form) ≡ true
form_kept list maps active form keeps h = elim (kept_or_not (named_at maps form)) [
  | inl t ↦ t
  | inr e ↦ not_both (is_some (own list active form)) h (ap is_some (none_own list maps active form keeps e))
]

colon_at : (name rest : List ℕ) → slice_index (form_of name rest) (length name) ≡ colon
colon_at [] rest = refl
colon_at (c ∷ name) rest = colon_at name rest

front_at : (name rest : List ℕ) → take (length name) (form_of name rest) ≡ name
front_at [] rest = refl
front_at (c ∷ name) rest = ap (λ t. c ∷ t) (front_at name rest)

within : (name rest : List ℕ) → length name < length (form_of name rest)
within [] rest = omega arith
within (c ∷ name) rest = omega (arith, within name rest)

noted_form : (list : List EntryLine) (maps : Maps) (name rest : List ℕ) → Keeps list maps → is_some (named_at maps (form_of name rest)) ≡ true → is_in rest (noted_at maps name) ≡ true
noted_form list maps name rest keeps h =
    let noted = keeps.forms (form_of name rest) h (length name) (within name rest) (colon_at name rest) in
    subst (λ t. is_in t (noted_at maps name) ≡ true) (drop_form name rest) (subst (λ n. is_in (drop (length name + 1) (form_of name rest)) (noted_at maps n) ≡ true) (front_at name rest) noted)

-- a form is its name, a colon and what stands behind
form_is : (list : List EntryLine) (active : List (List ℕ)) (name form : List ℕ) → is_form list active name form ≡ true → form ≡ form_of name (drop (length name + 1) form)
form_is list active name form h = form_front name form (form_begins list active name form h) ∙ append_assoc name (colon ∷ []) (drop (length name + 1) form)

pub form_is_present : (list : List EntryLine) (maps : Maps) (active : List (List ℕ)) (name form : List ℕ) → Keeps list maps → is_form list active name form ≡ true → is_in (drop (length name + 1) form) (present_forms maps active name) ≡ true
form_is_present list maps active name form keeps h =
    let rest = drop (length name + 1) form in
    let is = form_is list active name form h in
    let own_there = and_right (all_active active (parts_behind name form)) (is_some (own list active form)) (form_rest list active name form h) in
    let kept = subst (λ f. is_some (named_at maps f) ≡ true) is (form_kept list maps active form keeps own_there) in
    let at_form = subst (λ f. is_some (own_at active (named_at maps f)) ≡ true) is (own_some list maps active form keeps ∙ own_there) in
    in_filter (is_present maps active name) (noted_at maps name) rest
    (both (is_counted active rest) (is_some (own_at active (named_at maps (form_of name rest)))) (form_active list active name form h) at_form)
    (noted_form list maps name rest keeps kept)

-- the winning form

none_is : (list : List EntryLine) (active : List (List ℕ)) (name : List ℕ) (w : Option (List ℕ)) → IsWinning list active name w → ((form : List ℕ) → is_form list active name form ≡ true → ⊥) → w ≡ None
none_is list active name None h never = refl
none_is list active name (Some b) h never = absurd (never b h.0)

some_is : (list : List EntryLine) (active : List (List ℕ)) (name : List ℕ) (w : Option (List ℕ)) (f : List ℕ) → IsWinning list active name w → is_form list active name f ≡ true
    → ((g : List ℕ) → is_form list active name g ≡ true → form_beats active name g f ≡ false) → w ≡ Some f
some_is list active name None f h there best = not_both (is_form list active name f) there (h f)
some_is list active name (Some b) f h there best = ap Some (has_one_winner list active name b f h.0 there (best b h.0) (h.1 f there))

pub won_none : (list : List EntryLine) (maps : Maps) (active : List (List ℕ)) (name : List ℕ) (forms : List (List ℕ)) → Keeps list maps → forms ≡ present_forms maps active name → IsWinner active forms None → winning list active name ≡ None
won_none list maps active name forms keeps e best = none_is list active name (winning list active name) (winning_wins list active name) (λ form h.
    let rest = drop (length name + 1) form in
    let place = in_place rest forms (subst (λ l. is_in rest l ≡ true) (sym e) (form_is_present list maps active name form keeps h)) in
    not_both (is_counted active rest) (form_active list active name form h) (subst (λ t. is_counted active t ≡ false) place.2 (best place.0 place.1)))

pub won_some : (list : List EntryLine) (maps : Maps) (active : List (List ℕ)) (name : List ℕ) (forms : List (List ℕ)) (i : ℕ) → Keeps list maps → forms ≡ present_forms maps active name → IsWinner active forms (Some i)
    → winning list active name ≡ Some (form_of name (get_or forms i []))
won_some list maps active name forms i keeps e best =
    let rest = get_or forms i [] in
    let f = form_of name rest in
    let there = present_is_form list maps active name rest keeps (subst (λ l. is_in rest l ≡ true) e (at_place forms i best.0)) in
    some_is list active name (winning list active name) f (winning_wins list active name) there (λ g h.
    let other = drop (length name + 1) g in
    let place = in_place other forms (subst (λ l. is_in other l ≡ true) (sym e) (form_is_present list maps active name g keeps h)) in
    let counted : is_counted active (get_or forms place.0 []) ≡ true = subst (λ t. is_counted active t ≡ true) (sym place.2) (form_active list active name g h) in
    ap (λ t. beats active (parts_behind name g) (slice_split is_colon t)) (drop_form name rest)
    ∙ subst (λ t. beats active (parts t) (parts rest) ≡ false) place.2 (best.2 place.0 place.1 counted))

-- the value of a name, from that of its winning form

form_some : (list : List EntryLine) (active : List (List ℕ)) (name : List ℕ) (w : Option (List ℕ)) → IsWinning list active name w → (f : List ℕ) → w ≡ Some f → is_some (own list active f) ≡ true
form_some list active name None h f e = absurd cc
form_some list active name (Some b) h f e =
    let same : b ≡ f = cc in
    subst (λ t. is_some (own list active t) ≡ true) same (and_right (all_active active (parts_behind name b)) (is_some (own list active b)) (form_rest list active name b h.0))

-- the resolved value, where the winning form is known
abbrev pub resolved_with : List EntryLine → List (List ℕ) → List ℕ → Option (List ℕ) → Option Resolved
resolved_with list active name form = option_map
    (λ text. record {
      text = text;
      removes = form_removes list active form ++ texts_of Remove active (lates list name);
      flags = flag_if_set list name (codes "export") ++ flag_if_set list name (codes "func");
    })
    (with_lates active (lates list name) (form_value list active name form))

-- the resolved value from a value and removes that stand in front
abbrev pub joined_of : List EntryLine → List (List ℕ) → List ℕ → Option (List ℕ) → List (List ℕ) → Option Resolved
joined_of list active name value removes = option_map
    (λ text. record {
      text = text;
      removes = removes ++ texts_of Remove active (lates list name);
      flags = flag_if_set list name (codes "export") ++ flag_if_set list name (codes "func");
    })
    (with_lates active (lates list name) value)

some_own : (list : List EntryLine) (active : List (List ℕ)) (name f : List ℕ) (o : Option (List ℕ)) → own list active f ≡ o → (won : Resolved) → Some won ≡ option_map (with_removes active (lates list f)) o
    → resolved_with list active name (Some f) ≡ joined_of list active name (Some won.text) won.removes
some_own list active name f None e won h = absurd cc
some_own list active name f (Some text) e won h =
    let same : won ≡ with_removes active (lates list f) text = cc in
    ap (λ o. option_map (λ t. let made : Resolved = record { text = t; removes = texts_of Remove active (lates list f) ++ texts_of Remove active (lates list name); flags = flag_if_set list name (codes "export") ++ flag_if_set list name (codes "func") } in made) (with_lates active (lates list name) o)) e
    ∙ ap (λ w. joined_of list active name (Some w.text) w.removes) (sym same)

-- the value of a name where its winning form has this own value

pub own_some_is : (list : List EntryLine) (active : List (List ℕ)) (name : List ℕ) (w : Option (List ℕ)) (won : Resolved) → Some won ≡ own_of list active w
    → resolved_with list active name w ≡ joined_of list active name (Some won.text) won.removes
own_some_is list active name None won e = absurd cc
own_some_is list active name (Some f) won e = some_own list active name f (own list active f) refl won e

pub own_none_is : (list : List EntryLine) (active : List (List ℕ)) (name : List ℕ) (w : Option (List ℕ)) → IsWinning list active name w → None ≡ own_of list active w
    → resolved_with list active name w ≡ joined_of list active name (base list name) []
own_none_is list active name None h e = refl
own_none_is list active name (Some f) h e =
    let none : is_some (own_of list active (Some f)) ≡ false = ap is_some (sym e) in
    not_both (is_some (own list active f)) (form_some list active name (Some f) h f refl) (sym (some_mapped (with_removes active (lates list f)) (own list active f)) ∙ none)

-- what the maps join is what the entries give
pub joined_is : (list : List EntryLine) (maps : Maps) (active : List (List ℕ)) (name : List ℕ) (value : Option (List ℕ)) (removes : List (List ℕ)) → Keeps list maps
    → joined_at active (named_at maps name) value removes ≡ joined_of list active name value removes
joined_is list maps active name value removes keeps =
    let named = named_at maps name in
    ap (λ l. option_map (λ t. let made : Resolved = record { text = t; removes = removes ++ texts_of Remove active l; flags = told_flag named (codes "export") ++ told_flag named (codes "func") } in made) (with_lates active l value)) (keeps.late name)
    ∙ ap (λ s. option_map (λ t. let made : Resolved = record { text = t; removes = removes ++ texts_of Remove active (lates list name); flags = option_to_list (option_map (λ u. (codes "export", u)) (at_end s)) ++ told_flag named (codes "func") } in made) (with_lates active (lates list name) value)) (keeps.flags name (codes "export"))
    ∙ ap (λ s. option_map (λ t. let made : Resolved = record { text = t; removes = removes ++ texts_of Remove active (lates list name); flags = flag_if_set list name (codes "export") ++ option_to_list (option_map (λ u. (codes "func", u)) (at_end s)) } in made) (with_lates active (lates list name) value)) (keeps.flags name (codes "func"))
