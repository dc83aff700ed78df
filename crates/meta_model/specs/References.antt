-- The names that a text looks up, and what its forms ask for.
use Rattle.std.specs.Prelude.{ℕ, nat_le, List, [], ◌∷◌, ◌++◌, Result, Ok, fold, if◌then◌else◌}
use Rattle.std.specs.List.{list_all}
use Rattle.meta_model.specs.Refusal.{Refusal, too_deep, require, ◌>>=◌}
use Rattle.meta_model.specs.Text.{into_order, in_byte_order}
use Rattle.meta_model.specs.Names.{is_name_character}
use Rattle.meta_model.specs.Forms.{told_name}
use Rattle.meta_model.specs.Parts.{Parts, end, plain, reference, form, parts_of, depth}
use Rattle.meta_model.specs.Expansion.{Find, Values, longest, deepest, expanded_parts, values_by}

-- Each reference looks up its expanded name, unless that holds a character that no name of a reference has. Names inside of
-- references are expanded for it; the values of the names that stand in no other are not (own rule). A form looks up no name:
-- it stands here by the name under which a key tells what it finds.
abbrev pub names_looked_up : Values → Parts → Result (List (List ℕ)) Refusal
names_looked_up values end = Ok []
names_looked_up values (plain c rest) = names_looked_up values rest
names_looked_up values (reference inner rest) = do
  looked ← expanded_parts values [] inner longest
  inside ← names_looked_up values inner
  after ← names_looked_up values rest
  Ok (inside ++ (if list_all is_name_character looked then looked ∷ after else after))
names_looked_up values (form f rest) = do
  after ← names_looked_up values rest
  Ok (told_name f.name f.words ∷ after)

-- names put among others in byte order, each once
abbrev pub noted : Values → Parts → List (List ℕ) → Result (List (List ℕ)) Refusal
noted values parts names = do
  more ← names_looked_up values parts
  Ok (fold into_order names more)

-- The names that a text looks up itself, and what its forms ask for, in byte order, each once. How deep the text nests is asked first.
abbrev pub looked_up : Find → List ℕ → Result (List (List ℕ)) Refusal
looked_up find text = do
  shallow ← require (nat_le (depth (parts_of text)) deepest) (too_deep [])
  names ← names_looked_up (values_by find) (parts_of text)
  Ok (in_byte_order names)
