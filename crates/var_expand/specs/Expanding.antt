-- The steps of an expansion.
use Rattle.std.specs.Prelude.{ℕ, ◌-◌, ⊤, nat_le, List, [], ◌∷◌, ◌++◌, length, Result, Ok, flat_map}
use Rattle.std.specs.List.{list_all}
use Rattle.meta_model.specs.Refusal.{Refusal, too_long, require, ◌>>=◌}
use Rattle.meta_model.specs.Text.{words}
use Rattle.meta_model.specs.Names.{is_name_character}
use Rattle.meta_model.specs.declared.form.Form.{Form}
use Rattle.meta_model.specs.Forms.{form_text}
use Rattle.meta_model.specs.Parts.{Parts}
use Rattle.meta_model.specs.Expansion.{Find, Values, longest, innermost, or_reference, look_up, words_there, expanded_parts, all_expanded, values_within}
use Rattle.var_expand.specs.declared.parts.Part.{Part, Plain, Ref', Call}
use Rattle.var_expand.specs.Pieces.{parts_in_row}

-- names behind others, each in front of those before it
abbrev pub onto_names : List (List ℕ) → List (List ℕ) → List (List ℕ)
onto_names within [] = within
onto_names within (name ∷ names) = onto_names (name ∷ within) names

-- names from the last to the first
abbrev pub innermost_first : List (List ℕ) → List (List ℕ)
innermost_first names = onto_names [] names

-- the last of the names, or the empty text
abbrev pub last_name : List (List ℕ) → List ℕ
last_name names = innermost (innermost_first names)

-- The values of names in the expansion of these names, the last of which is the innermost, where so many more may be in
-- expansion.
unfoldable pub known : Find → ℕ → List (List ℕ) → Values
known find left names = values_within left find (innermost_first names)

-- there is room for so many bytes more
abbrev pub fitting : List (List ℕ) → ℕ → ℕ → Result ⊤ Refusal
fitting names room more = require (nat_le more room) (too_long (last_name names))

-- what a reference becomes, before it is asked whether there is room for it
abbrev pub reference_text : Values → List ℕ → Parts → Result (List ℕ) Refusal
reference_text values name inner = do
  looked ← expanded_parts values name inner longest
  found ← look_up values looked (list_all is_name_character looked)
  Ok (or_reference looked found)

-- what a form becomes
abbrev pub call_text : Values → Form → Result (List ℕ) Refusal
call_text values f = do
  there ← words_there values f
  Ok (form_text f there)

-- what a part becomes
abbrev pub part_text : Values → List ℕ → Part → Result (List ℕ) Refusal
part_text values name (Plain text) = Ok text
part_text values name (Ref' shape row) = reference_text values name (parts_in_row row)
part_text values name (Call f) = call_text values f

-- what is expanded so far, with one part more
abbrev pub grown : Values → List ℕ → Part → List ℕ → Result (List ℕ) Refusal
grown values name part sofar = do
  piece ← part_text values name part
  fits ← require (nat_le (length piece) (longest - length sofar)) (too_long name)
  Ok (sofar ++ piece)

-- the words of removes, expanded
abbrev pub removed : Values → List ℕ → List (List ℕ) → Result (List (List ℕ)) Refusal
removed values name texts = do
  removes ← all_expanded values name texts
  Ok (flat_map words removes)
