-- A text read as plain bytes, references and forms.
use Rattle.std.specs.Prelude.{◌≡◌, ℕ, Bool, true, false, not, ◌&&◌, ◌==◌, ◌+◌, ◌≤◌, suc, max, List, [], ◌∷◌, ◌++◌, Option, Some, None, option_map, if◌then◌else◌}
use Rattle.meta_model.specs.declared.form.Form.{Form}
use Rattle.meta_model.specs.Text.{◌>>=◌, dollar, open_brace, close_brace}
use Rattle.meta_model.specs.Names.{is_name_character}
use Rattle.meta_model.specs.Forms.{form_of}

-- The parts of a text: plain bytes, references with the parts of their names, and forms.
pub data Parts : Type 0 where
  end : Parts
  plain : ℕ → Parts → Parts
  reference : Parts → Parts → Parts
  form : Form → Parts → Parts

-- a text as `${` and other bytes
pub data Token : Type 0 where
  opening : Token
  byte : ℕ → Token

abbrev pub dollar_before : List Token → List Token
dollar_before (byte b ∷ tokens) = if b == open_brace then opening ∷ tokens else byte dollar ∷ (byte b ∷ tokens)
dollar_before tokens = byte dollar ∷ tokens

abbrev pub tokens_of : List ℕ → List Token
tokens_of [] = []
tokens_of (c ∷ text) = if c == dollar then dollar_before (tokens_of text) else byte c ∷ tokens_of text

-- A text cut at the braces `}` that close no reference of it.
pub data Levels : Type 0 where
  last : Parts → Levels
  before_brace : Parts → Levels → Levels

-- one more part in front of the first level
abbrev pub onto : (Parts → Parts) → Levels → Levels
onto part (last text) = last (part text)
onto part (before_brace text levels) = before_brace (part text) levels

abbrev pub is_nothing : Parts → Bool
is_nothing end = true
is_nothing _ = false

abbrev pub are_name_parts : Parts → Bool
are_name_parts end = true
are_name_parts (plain c rest) = is_name_character c && are_name_parts rest
are_name_parts (reference name rest) = are_name_parts rest
are_name_parts (form f rest) = false

-- what may stand in a reference: one or more name characters or references
abbrev pub is_name : Parts → Bool
is_name parts = not (is_nothing parts) && are_name_parts parts

abbrev pub plain_opening : Parts → Parts
plain_opening text = plain dollar (plain open_brace text)

-- the bytes of parts that are all plain
abbrev pub plain_bytes : Parts → Option (List ℕ)
plain_bytes end = Some []
plain_bytes (plain c rest) = option_map (λ bytes. c ∷ bytes) (plain_bytes rest)
plain_bytes _ = None

abbrev pub form_in : Parts → Option Form
form_in parts = plain_bytes parts >>= form_of

abbrev pub opened_form : Parts → Levels → Option Form → Levels
opened_form text levels None = before_brace (plain_opening text) levels
opened_form text levels (Some f) = onto (form f) levels

-- `${` opens a reference where what may stand in one goes up to the next brace that is free, and a form where one stands there;
-- else it is plain text.
abbrev pub opened : Levels → Levels
opened (last text) = last (plain_opening text)
opened (before_brace text levels) = if is_name text then onto (reference text) levels else opened_form text levels (form_in text)

-- a text read from its end
abbrev pub levels_of : List Token → Levels
levels_of [] = last end
levels_of (opening ∷ tokens) = opened (levels_of tokens)
levels_of (byte c ∷ tokens) = if c == close_brace then before_brace end (levels_of tokens) else onto (plain c) (levels_of tokens)

abbrev pub joined_with : Parts → Parts → Parts
joined_with end after = after
joined_with (plain c rest) after = plain c (joined_with rest after)
joined_with (reference name rest) after = reference name (joined_with rest after)
joined_with (form f rest) after = form f (joined_with rest after)

-- braces that close no reference are plain text
abbrev pub with_braces : Levels → Parts
with_braces (last text) = text
with_braces (before_brace text levels) = joined_with text (plain close_brace (with_braces levels))

-- A reference is `${`, one or more name characters or references, and `}` (BitBake User Manual, "Syntax and Operators",
-- section "Variable Expansion"; references inside a reference's name are an own rule). A form is no part of a reference's name
-- (own rule). Everything else is plain text. This reading has the most references and forms of all.
abbrev pub parts_of : List ℕ → Parts
parts_of text = with_braces (levels_of (tokens_of text))

-- how deep references nest
abbrev pub depth : Parts → ℕ
depth end = 0
depth (plain c rest) = depth rest
depth (reference name rest) = max (suc (depth name)) (depth rest)
depth (form f rest) = depth rest

-- how many references and forms there are, those in names included
abbrev pub references_in : Parts → ℕ
references_in end = 0
references_in (plain c rest) = references_in rest
references_in (reference name rest) = suc (references_in name + references_in rest)
references_in (form f rest) = suc (references_in rest)

-- what stands between `${` and `}`, and what follows the brace
pub record IsBraced (text inside after : List ℕ) : Type 0 where
  pub text_is : text ≡ dollar ∷ (open_brace ∷ (inside ++ (close_brace ∷ after)))

-- Parts are a reading of a text: each reference has what may stand in one, and each form is written in some way.
abbrev pub IsReading : List ℕ → Parts → Type 0
IsReading text end = text ≡ []
IsReading text (plain c rest) = (after : List ℕ) × (text ≡ c ∷ after) × IsReading after rest
IsReading text (reference name rest) =
    (inside : List ℕ) × (after : List ℕ) × IsBraced text inside after × (is_name name ≡ true) × IsReading inside name × IsReading after rest
IsReading text (form f rest) = (inside : List ℕ) × (after : List ℕ) × IsBraced text inside after × (form_of inside ≡ Some f) × IsReading after rest

-- The parts of a text are a reading of it, and no reading of it has more references and forms.
pub record HasMostReferences (text : List ℕ) : Type 0 where
  pub reading : IsReading text (parts_of text)
  pub most : (parts : Parts) → IsReading text parts → references_in parts ≤ references_in (parts_of text)
