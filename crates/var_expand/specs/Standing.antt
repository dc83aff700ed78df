-- Where the reading of a text stands: what stands before the references that are open, and in each of them.
use Rattle.std.specs.Prelude.{◌≡◌, ℕ, false, None, List, [], ◌∷◌}
use Rattle.meta_model.specs.Parts.{Parts, end, Levels, last, before_brace, opened, plain_opening, form_in, is_name, tokens_of, levels_of, joined_with}

-- the levels of a text
abbrev pub levels : List ℕ → Levels
levels text = levels_of (tokens_of text)

-- what stands behind an opening is neither a reference's name nor the inside of a form
pub record IsPlainInside (parts : Parts) : Type 0 where
  pub name : is_name parts ≡ false
  pub form : form_in parts ≡ None

-- parts in front of the first level
abbrev pub in_front : Parts → Levels → Levels
in_front parts (last text) = last (joined_with parts text)
in_front parts (before_brace text rest) = before_brace (joined_with parts text) rest

-- The levels of what comes, behind an opening behind each of these parts, the outermost first.
abbrev pub wrapped : List Parts → Levels → Levels
wrapped [] rest = rest
wrapped (parts ∷ inner) rest = in_front parts (opened (wrapped inner rest))

-- These parts as plain text, each with its opening.
abbrev pub flattened : List Parts → Parts
flattened [] = end
flattened (parts ∷ inner) = joined_with parts (plain_opening (flattened inner))
