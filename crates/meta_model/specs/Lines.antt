-- Physical and logical lines of a file.
use Rattle.std.specs.Prelude.{ℕ, suc, Bool, not, ◌&&◌, ◌||◌, List, [], ◌∷◌, ◌++◌, map, length, take, Option, Some, None, Result, Ok, Err, ◌==◌, nat_eq, if◌then◌else◌, count_by, is_some, codes, bytes_eq}
use Rattle.std.specs.List.{list_any, ends_with}
use Rattle.std.specs.Str.Lossy.{utf8_valid_len}
use Rattle.meta_model.specs.declared.line.Place.TheVariants.{Plain, Body, Close}
use Rattle.meta_model.specs.declared.line.Line.{Line}
use Rattle.meta_model.specs.declared.line.SyntaxFault.{SyntaxFault}
use Rattle.meta_model.specs.declared.line.SyntaxFault.TheVariants.{NotUtf8, DanglingJoin, CommentInJoin}
use Rattle.meta_model.specs.Text.{newline, carriage_return, equals, is_blank, is_quote, is_empty, begins_with, skip_blanks, without_end, without_last}

-- Lines end at a newline. What follows the last newline is a line unless it is empty.
abbrev pub onto_first : ℕ → List (List ℕ) → List (List ℕ)
onto_first b [] = (b ∷ []) ∷ []
onto_first b (p ∷ ps) = (b ∷ p) ∷ ps

abbrev pub pieces : List ℕ → List (List ℕ)
pieces [] = []
pieces (b ∷ bs) = if b == newline then [] ∷ pieces bs else onto_first b (pieces bs)

-- Spaces, tabs and carriage returns at a line's end are dropped (own rule).
abbrev pub physical_lines : List ℕ → List (List ℕ)
physical_lines bs = map (without_end (λ c. is_blank c || c == carriage_return)) (pieces bs)

-- A comment begins with `#`, behind blanks, whatever it ends with (own rule: the manual says no more than that a
-- line with `#` in front is a comment).
abbrev pub is_comment : List ℕ → Bool
is_comment p = begins_with (codes "#") (skip_blanks p)

-- A line that ends with a backslash goes on in the next physical line (BitBake User Manual, "Syntax and
-- Operators", section "Line Joining").
abbrev pub is_joined : List ℕ → Bool
is_joined p = ends_with nat_eq p (codes "\\")

-- the line before `()`, optional blanks and `{`, where it ends so
abbrev pub without_opening : List ℕ → Option (List ℕ)
without_opening s = let head = without_end is_blank (without_last s) in
    if ends_with nat_eq s (codes "{") && ends_with nat_eq head (codes "()") then Some (without_last (without_last head)) else None

-- A logical line that holds neither `=` nor a quote and ends with `()`, optional blanks and `{` opens a function
-- body (own rule; the form is that of the manual's section "Shell Functions").
abbrev pub opens_body : List ℕ → Bool
opens_body s = not (list_any (λ c. c == equals || is_quote c) s) && is_some (without_opening s)

-- Where a physical line stands: outside of bodies and joins; behind a backslash, with the number of the logical
-- line's first physical line and its text so far; inside a body.
pub data Standing : Type 0 where
  outside : Standing
  joining : ℕ → List ℕ → Standing
  inside : Standing

-- What a physical line does: it ends no logical line, or ends one, and says where the next one stands; or it is a
-- fault, with the line's number.
pub data Step : Type 0 where
  nothing : Standing → Step
  line : Line → Standing → Step
  fault : ℕ → SyntaxFault → Step

-- a whole logical line, with the number at which it begins
abbrev pub whole : ℕ → List ℕ → Step
whole n text = line (record { number = n; place = Plain; text = text }) (if opens_body text then inside else outside)

-- Outside, an empty line and a comment are dropped whole, a backslash at the comment's end included. Behind a
-- backslash, a line is put behind the logical line so far, an empty one too, which ends the join; a comment there is
-- a fault with its own number (own rules). In a body lines are taken as they are, up to a line that is `}` alone.
abbrev pub step : Standing → ℕ → List ℕ → Step
step outside n p =
    if is_empty p || is_comment p then nothing outside
    else (if is_joined p then nothing (joining n (without_last p))
    else whole n p)
step (joining begun text) n p =
    if is_comment p then fault n CommentInJoin
    else (if is_joined p then nothing (joining begun (text ++ without_last p))
    else whole begun (text ++ p))
step inside n p =
    if bytes_eq p (codes "}") then line (record { number = n; place = Close; text = p }) outside
    else line (record { number = n; place = Body; text = p }) inside

-- what is found, or the number of the line at fault and the fault
abbrev pub OrFault : Type 0 → Type 0
OrFault A = Result A (ℕ × SyntaxFault)

abbrev pub with_first : {A : Type 0} → A → OrFault (List A) → OrFault (List A)
with_first x (Ok xs) = Ok (x ∷ xs)
with_first x (Err e) = Err e

-- The logical lines of the physical lines from number n on, the first of which stands so. Where the file ends behind
-- a backslash, the fault has the number at which that logical line begins.
abbrev pub logical_from : Standing → ℕ → List (List ℕ) → OrFault (List Line)
logical_from outside n [] = Ok []
logical_from (joining begun text) n [] = Err (begun, DanglingJoin)
logical_from inside n [] = Ok []
logical_from standing n (p ∷ ps) = elim (step standing n p) [
  | nothing next ↦ logical_from next (suc n) ps
  | line l next ↦ with_first l (logical_from next (suc n) ps)
  | fault at wrong ↦ Err (at, wrong)
]

-- the logical lines of bytes that are UTF-8
abbrev pub lines_of_text : List ℕ → OrFault (List Line)
lines_of_text bs = logical_from outside 1 (physical_lines bs)

-- the number of the line that the byte at this place stands in
abbrev pub line_at : ℕ → List ℕ → ℕ
line_at place bs = suc (count_by (λ b. b == newline) (take place bs))

-- A file that isn't UTF-8 has no lines: the fault is at the line of the first byte that is no part of a character
-- (own rule).
unfoldable pub logical_lines : List ℕ → OrFault (List Line)
logical_lines bs = let good = utf8_valid_len bs in
    if good == length bs then lines_of_text bs else Err (line_at good bs, NotUtf8)
