-- Names of variables and flags, and the late keywords in a name.
use Rattle.std.specs.Prelude.{ℕ, Bool, not, ◌&&◌, List, [], ◌∷◌, ◌++◌, Option, Some, None, is_some, codes, bytes_eq, if◌then◌else◌}
use Rattle.std.specs.List.{slice_split, before_first}
use Rattle.meta_model.specs.declared.entry.Late.{Late}
use Rattle.meta_model.specs.declared.entry.Late.TheVariants.{Append, Prepend, Remove}
use Rattle.meta_model.specs.Text.{colon, is_colon, is_letter_digit_or, is_made_of, begins_with}

-- A NAME has letters, digits and `- _ + . $ { } / ~ :`, and at least one character (own rule).
abbrev pub is_name : List ℕ → Bool
is_name = is_made_of (codes "-_+.${}/~:")

-- A FLAG has letters, digits and `- _ + . @`, not starting with `@`, and at least one character (own rule).
abbrev pub is_flag : List ℕ → Bool
is_flag s = is_made_of (codes "-_+.@") s && not (begins_with (codes "@") s)

-- The characters that the name of a reference may have: letters, digits and `- _ + . / ~ :`. They are those of a
-- NAME without `$`, `{` and `}` (own rule).
abbrev pub is_name_character : ℕ → Bool
is_name_character = is_letter_digit_or (codes "-_+./~:")

-- the part of a name up to its first colon
abbrev pub first_part : List ℕ → List ℕ
first_part name = before_first is_colon name

-- the late keyword that a part of a name is
abbrev pub keyword : List ℕ → Option Late
keyword part =
    if bytes_eq part (codes "append") then Some Append
    else (if bytes_eq part (codes "prepend") then Some Prepend
    else (if bytes_eq part (codes "remove") then Some Remove
    else None))

-- what a late name says: the name that the entry goes to, the operation, and the conditions under which it counts
pub record LateName : Type 0 where
  pub target : List ℕ
  pub kind : Late
  pub when : List (List ℕ)

-- the late name of the parts behind `front`: at the first keyword, and what comes of the later parts elsewhere
abbrev pub at_keyword : List ℕ → List (List ℕ) → Option LateName → Option Late → Option LateName
at_keyword front rest later (Some kind) = Some (record { target = front; kind = kind; when = rest })
at_keyword front rest later None = later

abbrev pub late_from : List ℕ → List (List ℕ) → Option LateName
late_from front [] = None
late_from front (part ∷ rest) = at_keyword front rest (late_from (front ++ colon ∷ part) rest) (keyword part)

abbrev pub late_of_parts : List (List ℕ) → Option LateName
late_of_parts [] = None
late_of_parts (part ∷ rest) = late_from part rest

-- A name's parts stand between its colons. Where a part behind the first is `append`, `prepend` or `remove`, the first
-- such part is the late keyword: what stands before it is the target, and each part behind it is a condition, a further
-- keyword too (BitBake User Manual, "Syntax and Operators", sections "Appending and Prepending (Override Style Syntax)",
-- "Removal (Override Style Syntax)" and "Conditional Metadata"; the order of several keywords is an own rule).
abbrev pub late_name : List ℕ → Option LateName
late_name name = late_of_parts (slice_split is_colon name)

abbrev pub is_late : List ℕ → Bool
is_late name = is_some (late_name name)
