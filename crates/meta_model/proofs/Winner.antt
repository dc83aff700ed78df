-- The winning form is a form, no other beats it, and there is one such form alone.
use Rattle.std.proofs.Common.{◌≡◌, refl, sym, ◌∙◌, ap, subst, ℕ, ◌+◌, List, [], ◌∷◌, ◌++◌, length, take, drop, fold, filter, Bool, true, false, ◌&&◌, Some, None, is_some, ◌⊎◌, inl, inr, if◌then◌else◌, bytes_eq, take-append-drop, length-append}
use Rattle.std.specs.List.{slice_split, starts_with, join_with_byte}
use Rattle.std.specs.Prelude.{nat_eq}
use Rattle.std.proofs.lemmas.List.Splits.{join_with_byte-slice_split}
use Rattle.meta_model.proofs.Bools.{not_both, either_way, and_left, and_right, or_left, or_right, or_first, or_second, or_later, from_or, same_text, text_itself, differs}
use Rattle.meta_model.proofs.Order.{beats_one_way, beats_through, beats_itself, beats_same}
use Rattle.meta_model.specs.declared.entry.EntryLine.{EntryLine}
use Rattle.meta_model.specs.declared.entry.EntryLine.TheVariants.{Set, Later, Flag, Unset, UnsetFlag, Exported, Task, NoTask}
use Rattle.meta_model.specs.Text.{colon, is_colon, is_in}
use Rattle.meta_model.specs.Slot.{nothing}
use Rattle.meta_model.specs.Base.{value_slot, lates, names_in}
use Rattle.meta_model.specs.Overrides.{all_active, own, parts_behind, is_form, form_beats, better, winning, IsWinning, HasOneWinner}

-- a name that no entry names has no own value

pub value_unnamed : (list : List EntryLine) (name : List ℕ) → is_in name (names_in list) ≡ false → value_slot list name ≡ nothing
value_unnamed [] name h = refl
value_unnamed (Set n op text ∷ rest) name h = rw (differs name n (or_left (bytes_eq name n) (is_in name (names_in rest)) h)) (value_unnamed rest name (or_right (bytes_eq name n) (is_in name (names_in rest)) h))
value_unnamed (Later n kind when text ∷ rest) name h = value_unnamed rest name (or_right (bytes_eq name n) (is_in name (names_in rest)) h)
value_unnamed (Flag n f op text ∷ rest) name h = value_unnamed rest name (or_right (bytes_eq name n) (is_in name (names_in rest)) h)
value_unnamed (Unset n ∷ rest) name h = elim (either_way (bytes_eq n name)) [ inl t ↦ rw t (value_unnamed rest name h) | inr t ↦ rw t (value_unnamed rest name h) ]
value_unnamed (UnsetFlag n f ∷ rest) name h = value_unnamed rest name h
value_unnamed (Exported class n ∷ rest) name h = rw (differs name n (or_left (bytes_eq name n) (is_in name (names_in rest)) h)) (value_unnamed rest name (or_right (bytes_eq name n) (is_in name (names_in rest)) h))
value_unnamed (Task t after before ∷ rest) name h = value_unnamed rest name h
value_unnamed (NoTask t ∷ rest) name h = value_unnamed rest name h

pub lates_unnamed : (list : List EntryLine) (name : List ℕ) → is_in name (names_in list) ≡ false → lates list name ≡ []
lates_unnamed [] name h = refl
lates_unnamed (Set n op text ∷ rest) name h = lates_unnamed rest name (or_right (bytes_eq name n) (is_in name (names_in rest)) h)
lates_unnamed (Later n kind when text ∷ rest) name h = rw (differs name n (or_left (bytes_eq name n) (is_in name (names_in rest)) h)) (lates_unnamed rest name (or_right (bytes_eq name n) (is_in name (names_in rest)) h))
lates_unnamed (Flag n f op text ∷ rest) name h = lates_unnamed rest name (or_right (bytes_eq name n) (is_in name (names_in rest)) h)
lates_unnamed (Unset n ∷ rest) name h = elim (either_way (bytes_eq n name)) [ inl t ↦ rw t (lates_unnamed rest name h) | inr t ↦ rw t (lates_unnamed rest name h) ]
lates_unnamed (UnsetFlag n f ∷ rest) name h = lates_unnamed rest name h
lates_unnamed (Exported class n ∷ rest) name h = lates_unnamed rest name (or_right (bytes_eq name n) (is_in name (names_in rest)) h)
lates_unnamed (Task t after before ∷ rest) name h = lates_unnamed rest name h
lates_unnamed (NoTask t ∷ rest) name h = lates_unnamed rest name h

own_unnamed : (list : List EntryLine) (active : List (List ℕ)) (name : List ℕ) → is_in name (names_in list) ≡ false → own list active name ≡ None
own_unnamed list active name h = rw (value_unnamed list name h, lates_unnamed list name h) refl

-- the parts of the test for a form

pub form_begins : (list : List EntryLine) (active : List (List ℕ)) (name form : List ℕ) → is_form list active name form ≡ true → starts_with nat_eq form (name ++ (colon ∷ [])) ≡ true
form_begins list active name form h = and_left (starts_with nat_eq form (name ++ (colon ∷ []))) (all_active active (parts_behind name form) && is_some (own list active form)) h

pub form_rest : (list : List EntryLine) (active : List (List ℕ)) (name form : List ℕ) → is_form list active name form ≡ true → (all_active active (parts_behind name form) && is_some (own list active form)) ≡ true
form_rest list active name form h = and_right (starts_with nat_eq form (name ++ (colon ∷ []))) (all_active active (parts_behind name form) && is_some (own list active form)) h

pub form_active : (list : List EntryLine) (active : List (List ℕ)) (name form : List ℕ) → is_form list active name form ≡ true → all_active active (parts_behind name form) ≡ true
form_active list active name form h = and_left (all_active active (parts_behind name form)) (is_some (own list active form)) (form_rest list active name form h)

form_named : (list : List EntryLine) (active : List (List ℕ)) (name form : List ℕ) → is_form list active name form ≡ true → is_in form (names_in list) ≡ true
form_named list active name form h = elim (either_way (is_in form (names_in list))) [
  | inl t ↦ t
  | inr f ↦ not_both (is_some (own list active form)) (and_right (all_active active (parts_behind name form)) (is_some (own list active form)) (form_rest list active name form h)) (ap is_some (own_unnamed list active form f))
]

-- what passes a test stays when it is filtered by it
pub in_filter : (test : List ℕ → Bool) (names : List (List ℕ)) (name : List ℕ) → test name ≡ true → is_in name names ≡ true → is_in name (filter test names) ≡ true
in_filter test [] name h k = k
in_filter test (n ∷ names) name h k = elim (either_way (bytes_eq name n)) [
  | inl e ↦ rw (ap test (sym (same_text name n e)) ∙ h) (or_first (bytes_eq name n) (is_in name (filter test names)) e)
  | inr e ↦ elim (either_way (test n)) [
    | inl t ↦ rw t (or_second (bytes_eq name n) (is_in name (filter test names)) e (in_filter test names name h (from_or (bytes_eq name n) (is_in name names) k e)))
    | inr t ↦ rw t (in_filter test names name h (from_or (bytes_eq name n) (is_in name names) k e))
  ]
]

-- and what stays passes it
pub filter_passes : (test : List ℕ → Bool) (names : List (List ℕ)) (name : List ℕ) → is_in name (filter test names) ≡ true → test name ≡ true
filter_passes test [] name h = not_both false h refl
filter_passes test (n ∷ names) name h = elim (either_way (test n)) [
  | inl t ↦ elim (either_way (bytes_eq name n)) [
    | inl e ↦ ap test (same_text name n e) ∙ t
    | inr e ↦ filter_passes test names name (from_or (bytes_eq name n) (is_in name (filter test names)) (subst (λ b. is_in name (if b then n ∷ filter test names else filter test names) ≡ true) t h) e)
  ]
  | inr t ↦ filter_passes test names name (subst (λ b. is_in name (if b then n ∷ filter test names else filter test names) ≡ true) t h)
]

-- the best of forms, from one on
abbrev best : List (List ℕ) → List ℕ → List ℕ → List (List ℕ) → List ℕ
best active name b [] = b
best active name b (f ∷ forms) = best active name (if form_beats active name f b then f else b) forms

better_some : (active : List (List ℕ)) (name b f : List ℕ) → better active name (Some b) f ≡ Some (if form_beats active name f b then f else b)
better_some active name b f = elim (either_way (form_beats active name f b)) [ inl t ↦ rw t refl | inr t ↦ rw t refl ]

fold_best : (active : List (List ℕ)) (name b : List ℕ) (forms : List (List ℕ)) → fold (better active name) (Some b) forms ≡ Some (best active name b forms)
fold_best active name b [] = refl
fold_best active name b (f ∷ forms) = ap (λ r. fold (better active name) r forms) (better_some active name b f) ∙ fold_best active name (if form_beats active name f b then f else b) forms

-- the best isn't beaten by the one that it begins with
best_begins : (active : List (List ℕ)) (name b : List ℕ) (forms : List (List ℕ)) → form_beats active name b (best active name b forms) ≡ false
best_begins active name b [] = beats_itself active (parts_behind name b)
best_begins active name b (f ∷ forms) = elim (either_way (form_beats active name f b)) [
  | inl t ↦ rw t (beats_through active (parts_behind name b) (parts_behind name f) (parts_behind name (best active name f forms)) (beats_one_way active (parts_behind name f) (parts_behind name b) t) (best_begins active name f forms))
  | inr t ↦ rw t (best_begins active name b forms)
]

-- nor by any that comes behind it
best_others : (active : List (List ℕ)) (name b : List ℕ) (forms : List (List ℕ)) (form : List ℕ) → is_in form forms ≡ true → form_beats active name form (best active name b forms) ≡ false
best_others active name b [] form h = not_both false h refl
best_others active name b (f ∷ forms) form h = elim (either_way (bytes_eq form f)) [
  | inl e ↦ subst (λ z. form_beats active name z (best active name (if form_beats active name f b then f else b) forms) ≡ false) (sym (same_text form f e)) (elim (either_way (form_beats active name f b)) [
    | inl t ↦ rw t (best_begins active name f forms)
    | inr t ↦ rw t (beats_through active (parts_behind name f) (parts_behind name b) (parts_behind name (best active name b forms)) t (best_begins active name b forms))
  ])
  | inr e ↦ best_others active name (if form_beats active name f b then f else b) forms form (from_or (bytes_eq form f) (is_in form forms) h e)
]

-- a choice is one of the two
chosen : (test : Bool) (f b : List ℕ) → ((if test then f else b) ≡ f) ⊎ ((if test then f else b) ≡ b)
chosen true f b = inl refl
chosen false f b = inr refl

-- what is the choice or behind it, is one of all
in_all : (form c b f : List ℕ) (forms : List (List ℕ)) → (c ≡ f) ⊎ (c ≡ b) → is_in form (c ∷ forms) ≡ true → is_in form (b ∷ (f ∷ forms)) ≡ true
in_all form c b f forms (inl e) h = or_later (bytes_eq form b) (is_in form (f ∷ forms)) (subst (λ z. is_in form (z ∷ forms) ≡ true) e h)
in_all form c b f forms (inr e) h = elim (either_way (bytes_eq form b)) [
  | inl t ↦ or_first (bytes_eq form b) (is_in form (f ∷ forms)) t
  | inr t ↦ or_second (bytes_eq form b) (is_in form (f ∷ forms)) t (or_later (bytes_eq form f) (is_in form forms) (from_or (bytes_eq form b) (is_in form forms) (subst (λ z. is_in form (z ∷ forms) ≡ true) e h) t))
]

-- it is the one that it begins with, or one behind it
best_is : (active : List (List ℕ)) (name b : List ℕ) (forms : List (List ℕ)) → is_in (best active name b forms) (b ∷ forms) ≡ true
best_is active name b [] = or_first (bytes_eq b b) false (text_itself b)
best_is active name b (f ∷ forms) =
    let c = if form_beats active name f b then f else b in
    in_all (best active name c forms) c b f forms (chosen (form_beats active name f b) f b) (best_is active name c forms)

-- the fold over all forms

wins : (list : List EntryLine) (active : List (List ℕ)) (name : List ℕ) (forms : List (List ℕ)) → ((form : List ℕ) → is_form list active name form ≡ true → is_in form forms ≡ true) → ((form : List ℕ) → is_in form forms ≡ true → is_form list active name form ≡ true) → IsWinning list active name (fold (better active name) None forms)
wins list active name [] every only = λ form. elim (either_way (is_form list active name form)) [
  | inl t ↦ not_both false (every form t) refl
  | inr f ↦ f
]
wins list active name (b ∷ forms) every only = subst (λ r. IsWinning list active name r) (sym (fold_best active name b forms)) (
  only (best active name b forms) (best_is active name b forms),
  (λ form h. elim (either_way (bytes_eq form b)) [
    | inl e ↦ subst (λ z. form_beats active name z (best active name b forms) ≡ false) (sym (same_text form b e)) (best_begins active name b forms)
    | inr e ↦ best_others active name b forms form (from_or (bytes_eq form b) (is_in form forms) (every form h) e)
  ]),
)

-- the winning form is a form, and none beats it
pub winning_wins : (list : List EntryLine) (active : List (List ℕ)) (name : List ℕ) → IsWinning list active name (winning list active name)
winning_wins list active name = wins list active name (filter (is_form list active name) (names_in list))
    (λ form h. in_filter (is_form list active name) (names_in list) form h (form_named list active name form h))
    (λ form h. filter_passes (is_form list active name) (names_in list) form h)

-- a form is its name, a colon and what its parts are cut from

pub form_front : (name form : List ℕ) → starts_with nat_eq form (name ++ (colon ∷ [])) ≡ true → form ≡ (name ++ (colon ∷ [])) ++ drop (length name + 1) form
form_front name form h =
    let e : name ++ (colon ∷ []) ≡ take (length (name ++ (colon ∷ []))) form = same_text (name ++ (colon ∷ [])) (take (length (name ++ (colon ∷ []))) form) h in
    sym (take-append-drop (length (name ++ (colon ∷ []))) form) ∙ ap (λ z. z ++ drop (length (name ++ (colon ∷ []))) form) (sym e) ∙ ap (λ n. (name ++ (colon ∷ [])) ++ drop n form) (length-append name (colon ∷ []))

cut_same : (a b : List ℕ) → slice_split is_colon a ≡ slice_split is_colon b → a ≡ b
cut_same a b h = sym (join_with_byte-slice_split colon a) ∙ ap (join_with_byte colon) h ∙ join_with_byte-slice_split colon b

-- two forms of which neither beats the other are one
pub has_one_winner : (list : List EntryLine) (active : List (List ℕ)) (name : List ℕ) → HasOneWinner list active name
has_one_winner list active name a b ha hb f g =
    let parts = beats_same active (parts_behind name a) (parts_behind name b) (form_active list active name a ha) (form_active list active name b hb) f g in
    form_front name a (form_begins list active name a ha)
    ∙ ap (λ rest. (name ++ (colon ∷ [])) ++ rest) (cut_same (drop (length name + 1) a) (drop (length name + 1) b) parts)
    ∙ sym (form_front name b (form_begins list active name b hb))
