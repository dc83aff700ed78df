-- Expansion of references and forms.
use Rattle.std.specs.Prelude.{◌≡◌, ℕ, zero, suc, ◌-◌, Bool, true, false, not, nat_le, List, [], ◌∷◌, ◌++◌, length, Option, Some, None, Result, Ok, Err, codes, flat_map}
use Rattle.std.specs.List.{list_all}
use Rattle.meta_model.specs.declared.value.Resolved.{Resolved}
use Rattle.meta_model.specs.Refusal.{Refusal, value_cycle, too_deep, too_long, ◌>>=◌, require}
use Rattle.meta_model.specs.Text.{is_in, words, drop_words}
use Rattle.meta_model.specs.Names.{is_name_character}
use Rattle.meta_model.specs.declared.form.Form.{Form}
use Rattle.meta_model.specs.Forms.{form_text, words_in}
use Rattle.meta_model.specs.Parts.{Parts, end, plain, reference, form, parts_of, depth}

-- Those of some words that stand in the value of a name, where that is told without the value.
abbrev pub Known : Type 0
Known = List ℕ → List (List ℕ) → Option (List (List ℕ))

-- of entries nothing is told so
abbrev pub untold : Known
untold name wanted = None

-- what each name has, or why that can't be said; and which words are told
pub record Find : Type 0 where
  pub at : List ℕ → Result (Option Resolved) Refusal
  pub known : Known

-- two that find alike, and tell alike
pub record IsAlike (f g : Find) : Type 0 where
  pub at : (name : List ℕ) → f.at name ≡ g.at name
  pub known : (name : List ℕ) (wanted : List (List ℕ)) → f.known name wanted ≡ g.known name wanted

-- the expanded value of each name; and which words are told
pub record Values : Type 0 where
  pub at : List ℕ → Result (Option (List ℕ)) Refusal
  pub known : Known

-- names that have this, with nothing told
abbrev pub found_by : (List ℕ → Result (Option Resolved) Refusal) → Find
found_by find = record { at = find; known = untold }

-- The bounds (own rules): the bytes of an expanded text, and both the names in expansion and the references nested in a text.
abbrev pub longest : ℕ
longest = 1_048_576

abbrev pub deepest : ℕ
deepest = 64

-- the innermost of the names in expansion, or the empty text
abbrev pub innermost : List (List ℕ) → List ℕ
innermost [] = []
innermost (name ∷ within) = name

-- What a reference becomes: the value of its name, or, where there is none, the reference with its inner parts expanded
-- ("Variable Expansion").
abbrev pub or_reference : List ℕ → Option (List ℕ) → List ℕ
or_reference name None = codes "${" ++ (name ++ codes "}")
or_reference name (Some value) = value

-- the value of a name of name characters; any other name has none (own rule)
abbrev pub look_up : Values → List ℕ → Bool → Result (Option (List ℕ)) Refusal
look_up values name true = values.at name
look_up values name false = Ok None

-- the words of a form that are there: as they are told, or else those that stand in the expanded value of its name
abbrev pub told_or_found : Values → Form → Option (List (List ℕ)) → Result (List (List ℕ)) Refusal
told_or_found values f (Some told) = Ok told
told_or_found values f None = do
  value ← values.at f.name
  Ok (words_in f.words value)

abbrev pub words_there : Values → Form → Result (List (List ℕ)) Refusal
words_there values f = told_or_found values f (values.known f.name f.words)

-- a piece before what follows it, where there is room for it
abbrev pub put_before : List ℕ → ℕ → List ℕ → (ℕ → Result (List ℕ) Refusal) → Result (List ℕ) Refusal
put_before name room piece rest = do
  fits ← require (nat_le (length piece) room) (too_long name)
  after ← rest (room - length piece)
  Ok (piece ++ after)

-- Parts expanded to at most so many bytes, in the expansion of a name. Of several refusals the earliest in the text comes.
-- What is put in for a reference is not read again: glued text makes no reference (own rule).
abbrev pub expanded_parts : Values → List ℕ → Parts → ℕ → Result (List ℕ) Refusal
expanded_parts values name end room = Ok []
expanded_parts values name (plain c rest) room = put_before name room (c ∷ []) (expanded_parts values name rest)
expanded_parts values name (reference inner rest) room = do
  looked ← expanded_parts values name inner longest
  found ← look_up values looked (list_all is_name_character looked)
  put_before name room (or_reference looked found) (expanded_parts values name rest)
expanded_parts values name (form f rest) room = do
  there ← words_there values f
  put_before name room (form_text f there) (expanded_parts values name rest)

-- A text expanded, in the expansion of a name. How deep it nests is asked before anything of it is expanded.
abbrev pub expanded : Values → List ℕ → List ℕ → Result (List ℕ) Refusal
expanded values name text = do
  shallow ← require (nat_le (depth (parts_of text)) deepest) (too_deep name)
  expanded_parts values name (parts_of text) longest

abbrev pub all_expanded : Values → List ℕ → List (List ℕ) → Result (List (List ℕ)) Refusal
all_expanded values name [] = Ok []
all_expanded values name (text ∷ texts) = do
  first ← expanded values name text
  rest ← all_expanded values name texts
  Ok (first ∷ rest)

-- A resolved value expanded, without the words of its expanded removes ("Removal (Override Style Syntax)").
abbrev pub expanded_value : Values → List ℕ → Resolved → Result (List ℕ) Refusal
expanded_value values name found = do
  text ← expanded values name found.text
  removes ← all_expanded values name found.removes
  Ok (drop_words text (flat_map words removes))

abbrev pub present : (Resolved → Result (List ℕ) Refusal) → Option Resolved → Result (Option (List ℕ)) Refusal
present expand None = Ok None
present expand (Some value) = do
  text ← expand value
  Ok (Some text)

-- A name that is met in the expansion of itself is refused; an absent one has no value; else its value counts.
abbrev pub met : Find → List (List ℕ) → List ℕ → (Resolved → Result (List ℕ) Refusal) → Result (Option (List ℕ)) Refusal
met find within name expand = do
  fresh ← require (not (is_in name within)) (value_cycle name)
  found ← find.at name
  present expand found

-- values with what a look-up tells
abbrev pub telling : Find → (List ℕ → Result (Option (List ℕ)) Refusal) → Values
telling find values = record { at = values; known = find.known }

-- The value of a name within the expansion of others, the innermost first, where so many more may be in expansion. The name of a
-- form is in expansion as that of a reference is.
abbrev pub value_within : ℕ → Find → List (List ℕ) → List ℕ → Result (Option (List ℕ)) Refusal
value_within zero find within name = met find within name (λ value. Err (too_deep (innermost within)))
value_within (suc left) find within name = met find within name (expanded_value (telling find (value_within left find (name ∷ within))) name)

abbrev pub values_within : ℕ → Find → List (List ℕ) → Values
values_within left find within = telling find (value_within left find within)

-- The expanded values of names.
abbrev pub values_by : Find → Values
values_by find = values_within deepest find []

-- The expanded value of a name.
abbrev pub value_by : Find → List ℕ → Result (Option (List ℕ)) Refusal
value_by find = value_within deepest find []

-- A text that is no name's, expanded.
abbrev pub expand_by : Find → List ℕ → Result (List ℕ) Refusal
expand_by find text = expanded (values_by find) [] text
