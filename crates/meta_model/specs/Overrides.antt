-- Own values, forms and resolved values, where the active overrides are known.
use Rattle.std.specs.Prelude.{◌≡◌, ℕ, suc, Bool, true, false, ◌||◌, ◌&&◌, ◌==◌, ◌+◌, nat_lt, nat_eq, List, [], ◌∷◌, ◌++◌, map, filter, reverse, length, drop, Option, Some, None, is_some, option_map, unwrap_or, option_to_list, fold, codes, if◌then◌else◌}
use Rattle.std.specs.List.{list_all, slice_split, starts_with, concat}
use Rattle.meta_model.specs.declared.entry.EntryLine.{EntryLine}
use Rattle.meta_model.specs.declared.entry.Late.{Late}
use Rattle.meta_model.specs.declared.entry.Late.TheVariants.{Append, Prepend, Remove}
use Rattle.meta_model.specs.declared.entry.LateLine.{LateLine}
use Rattle.meta_model.specs.declared.value.Resolved.{Resolved}
use Rattle.meta_model.specs.Text.{colon, is_colon, is_in}
use Rattle.meta_model.specs.Base.{base, flag, lates, names_in}

abbrev pub is_kind : Late → Late → Bool
is_kind Append Append = true
is_kind Prepend Prepend = true
is_kind Remove Remove = true
is_kind _ _ = false

-- all these parts are active overrides
abbrev pub all_active : List (List ℕ) → List (List ℕ) → Bool
all_active active parts = list_all (λ part. is_in part active) parts

-- a late entry counts where its conditions are all active ("Conditional Metadata")
abbrev pub counts : List (List ℕ) → Late → LateLine → Bool
counts active kind line = is_kind kind line.kind && all_active active line.when

-- the texts of the late entries of one kind that count, in order
abbrev pub texts_of : Late → List (List ℕ) → List LateLine → List (List ℕ)
texts_of kind active lines = map (λ line. line.text) (filter (counts active kind) lines)

-- Behind a value come the texts of the appends in order, then each prepend in order is put in front ("Appending and
-- Prepending (Override Style Syntax)"). Where there is neither a value nor one of these there is nothing.
abbrev pub applied : Option (List ℕ) → List (List ℕ) → List (List ℕ) → Option (List ℕ)
applied None [] [] = None
applied value appends prepends = Some (fold (λ text front. front ++ text) (unwrap_or value [] ++ concat appends) prepends)

abbrev pub with_lates : List (List ℕ) → List LateLine → Option (List ℕ) → Option (List ℕ)
with_lates active lines value = applied value (texts_of Append active lines) (texts_of Prepend active lines)

-- The own value of a name: its base value with its own late entries.
abbrev pub own : List EntryLine → List (List ℕ) → List ℕ → Option (List ℕ)
own list active name = with_lates active (lates list name) (base list name)

-- the parts p1 to pk of a name `N:p1:..:pk`
abbrev pub parts_behind : List ℕ → List ℕ → List (List ℕ)
parts_behind name form = slice_split is_colon (drop (length name + 1) form)

-- A form of a name N is a name `N:p1:..:pk` whose parts are all active and whose own value is present ("Conditional
-- Metadata"). A part may have letters of either case (own rule).
abbrev pub is_form : List EntryLine → List (List ℕ) → List ℕ → List ℕ → Bool
is_form list active name form =
    starts_with nat_eq form (name ++ (colon ∷ [])) && (all_active active (parts_behind name form) && is_some (own list active form))

-- the place of a part among the active overrides: its last one, counted from 0
abbrev pub place : List (List ℕ) → List ℕ → ℕ
place [] part = 0
place (piece ∷ pieces) part = if is_in part pieces then suc (place pieces part) else 0

-- the first place at which two lists differ decides
abbrev pub is_greater : List ℕ → List ℕ → Bool
is_greater (x ∷ xs) (y ∷ ys) = nat_lt y x || ((x == y) && is_greater xs ys)
is_greater _ _ = false

-- The form with the parts p beats the one with the parts q: more parts win; then the places in OVERRIDES are compared from
-- the last part to the first, and the greater wins (own rule; for forms of one part it is the manual's, where the last
-- override in OVERRIDES wins).
abbrev pub beats : List (List ℕ) → List (List ℕ) → List (List ℕ) → Bool
beats active p q =
    nat_lt (length q) (length p) || ((length p == length q) && is_greater (reverse (map (place active) p)) (reverse (map (place active) q)))

-- the form a of a name beats its form b
abbrev pub form_beats : List (List ℕ) → List ℕ → List ℕ → List ℕ → Bool
form_beats active name a b = beats active (parts_behind name a) (parts_behind name b)

abbrev pub better : List (List ℕ) → List ℕ → Option (List ℕ) → List ℕ → Option (List ℕ)
better active name None form = Some form
better active name (Some best) form = if form_beats active name form best then Some form else Some best

-- The winning form of a name, where it has a form: the one that no other beats.
abbrev pub winning : List EntryLine → List (List ℕ) → List ℕ → Option (List ℕ)
winning list active name = fold (better active name) None (filter (is_form list active name) (names_in list))

abbrev pub form_value : List EntryLine → List (List ℕ) → List ℕ → Option (List ℕ) → Option (List ℕ)
form_value list active name None = base list name
form_value list active name (Some form) = own list active form

abbrev pub form_removes : List EntryLine → List (List ℕ) → Option (List ℕ) → List (List ℕ)
form_removes list active None = []
form_removes list active (Some form) = texts_of Remove active (lates list form)

abbrev pub flag_if_set : List EntryLine → List ℕ → List ℕ → List (List ℕ × List ℕ)
flag_if_set list name f = option_to_list (option_map (λ text. (f, text)) (flag list name f))

-- The resolved value of a name: the own value of its winning form, or, where it has no form, its base value; then the
-- name's own appends and prepends. The removes that count are kept beside it, those of the form first, and the flags
-- `export` and `func` where they are set. It is absent where there is neither a value nor an append or prepend.
abbrev pub resolved : List EntryLine → List (List ℕ) → List ℕ → Option Resolved
resolved list active name =
    let form = winning list active name in
    option_map
    (λ text. record {
      text = text;
      removes = form_removes list active form ++ texts_of Remove active (lates list name);
      flags = flag_if_set list name (codes "export") ++ flag_if_set list name (codes "func");
    })
    (with_lates active (lates list name) (form_value list active name form))

-- What is said of the winning form: where there is one, it is a form and no form beats it; where there is none, no name is
-- a form.
abbrev pub IsWinning : List EntryLine → List (List ℕ) → List ℕ → Option (List ℕ) → Type 0
IsWinning list active name None = (form : List ℕ) → is_form list active name form ≡ false
IsWinning list active name (Some best) = (is_form list active name best ≡ true) × ((form : List ℕ) → is_form list active name form ≡ true → form_beats active name form best ≡ false)

-- Two forms of which neither beats the other are one: so the winning form doesn't depend on the order of the entries.
abbrev pub HasOneWinner : List EntryLine → List (List ℕ) → List ℕ → Type 0
HasOneWinner list active name = (a b : List ℕ) → is_form list active name a ≡ true → is_form list active name b ≡ true → form_beats active name a b ≡ false → form_beats active name b a ≡ false → a ≡ b
