-- The parts that the program reads, as the parts of the definitions.
use Rattle.std.specs.Prelude.{ℕ, Bool, true, false, not, nat_le, List, [], ◌∷◌, Result, Ok}
use Rattle.std.specs.List.{list_all}
use Rattle.meta_model.specs.Text.{is_empty}
use Rattle.meta_model.specs.Names.{is_name_character}
use Rattle.var_expand.specs.declared.parts.Part.{Part, Plain, Ref', Call, Row_of-Part, end_of-Part, more_of-Part}
use Rattle.var_expand.specs.declared.parts.Parts.{Parts as Pieces}
use Rattle.meta_model.specs.Refusal.{Refusal, too_deep, require, ◌>>=◌}
use Rattle.meta_model.specs.Parts.{Parts, end, plain, reference, form, parts_of, depth}
use Rattle.meta_model.specs.Expansion.{deepest}

-- a text as plain bytes before other parts
abbrev pub text_before : List ℕ → Parts → Parts
text_before [] after = after
text_before (c ∷ text) after = plain c (text_before text after)

abbrev mutual
  pub part_before : Part → Parts → Parts
  part_before (Plain text) after = text_before text after
  part_before (Ref' shape row) after = reference (parts_in_row row) after
  part_before (Call f) after = form f after

  pub parts_in_row : {m : _} → Row_of-Part m → Parts
  parts_in_row end_of-Part = end
  parts_in_row (more_of-Part part rest) = part_before part (parts_in_row rest)

abbrev pub parts_in_list : List Part → Parts
parts_in_list [] = end
parts_in_list (part ∷ parts) = part_before part (parts_in_list parts)

-- the parts that the program has, as the parts of the definitions
abbrev pub parts_in : Pieces → Parts
parts_in pieces = parts_in_list pieces.list.items

-- the part may stand in a reference
abbrev pub is_name_part : Part → Bool
is_name_part (Plain text) = list_all is_name_character text
is_name_part (Ref' shape row) = true
is_name_part (Call f) = false

-- the part isn't an empty text
abbrev pub is_something : Part → Bool
is_something (Plain text) = not (is_empty text)
is_something (Ref' shape row) = true
is_something (Call f) = true

-- The parts of a text; more than 64 references in one another are refused (own rule).
abbrev pub shallow_parts : List ℕ → Result Parts Refusal
shallow_parts text = do
  shallow ← require (nat_le (depth (parts_of text)) deepest) (too_deep [])
  Ok (parts_of text)
