-- The two literal forms of Python: `${@bb.utils.contains('V', 'W ..', 'YES', 'NO', d)}` and `${@bb.utils.filter('V', 'W ..', d)}`
-- (BitBake User Manual, "Syntax and Operators", section "Inline Python Variable Expansion"; that these two alone are read, and
-- how, are own rules). Each asks which of some words stand in the value of a name.
use Rattle.std.specs.Prelude.{ℕ, zero, suc, Bool, true, false, not, ◌&&◌, List, [], ◌∷◌, ◌++◌, Option, Some, None, is_some, codes, drop, filter, flat_map, ◌==◌, if◌then◌else◌}
use Rattle.std.specs.List.{list_all, list_any}
use Rattle.meta_model.specs.declared.form.Form.{Form}
use Rattle.meta_model.specs.declared.form.FormKind.{FormKind}
use Rattle.meta_model.specs.declared.form.FormKind.TheVariants.{Contains, Filter}
use Rattle.meta_model.specs.Text.{◌>>=◌, space, is_quote, is_one_of, is_empty, is_in, is_made_of, begins_with, skip_blanks, split_at_first, words, in_byte_order}
use Rattle.meta_model.specs.Names.{is_name_character}

abbrev pub comma : ℕ
comma = 44

abbrev pub close_paren : ℕ
close_paren = 41

-- what stands behind a character, where it stands at the front behind blanks
abbrev pub behind_sign : ℕ → List ℕ → Option (List ℕ)
behind_sign c [] = None
behind_sign c (d ∷ text) = if d == c then Some text else None

abbrev pub behind : ℕ → List ℕ → Option (List ℕ)
behind c text = behind_sign c (skip_blanks text)

-- A literal stands between two quotes of one kind, and holds no quote of either kind.
abbrev pub without_quotes : List ℕ × List ℕ → Option (List ℕ × List ℕ)
without_quotes cut = if list_any is_quote cut.0 then None else Some cut

-- a literal at the front, and what stands behind it
abbrev pub literal : List ℕ → Option (List ℕ × List ℕ)
literal [] = None
literal (q ∷ text) = if is_quote q then split_at_first q text >>= without_quotes else None

-- an argument at the front: a literal with a comma behind it, and what stands behind that; blanks may stand around each
abbrev pub argument : List ℕ → Option (List ℕ × List ℕ)
argument text = do
  first ← literal (skip_blanks text)
  after ← behind comma first.1
  Some (first.0, after)

-- the bare `d` and the bracket that closes the call; blanks may stand around each of them, and nothing else follows
abbrev pub is_nothing : Option (List ℕ) → Bool
is_nothing None = false
is_nothing (Some rest) = is_empty (skip_blanks rest)

abbrev pub ends_call : List ℕ → Bool
ends_call text = is_nothing (behind 100 text >>= behind close_paren)

-- a call, by its literals: the name, the words, and what `contains` gives
pub record Call : Type 0 where
  pub name : List ℕ
  pub wanted : List ℕ
  pub given : Option (List ℕ × List ℕ)

abbrev pub if_ended : Bool → Call → Option Call
if_ended true call = Some call
if_ended false call = None

-- the calls, behind their opening brackets
abbrev pub contains_call : List ℕ → Option Call
contains_call text = do
  name ← argument text
  wanted ← argument name.1
  full ← argument wanted.1
  short ← argument full.1
  if_ended (ends_call short.1) (record { name = name.0; wanted = wanted.0; given = Some (full.0, short.0) })

abbrev pub filter_call : List ℕ → Option Call
filter_call text = do
  name ← argument text
  wanted ← argument name.1
  if_ended (ends_call wanted.1) (record { name = name.0; wanted = wanted.0; given = None })

abbrev pub call_of : List ℕ → Option Call
call_of inside =
    if begins_with (codes "@bb.utils.contains(") inside then contains_call (drop 19 inside)
    else (if begins_with (codes "@bb.utils.filter(") inside then filter_call (drop 17 inside) else None)

-- A call is a form where its name is one or more name characters, and there is at least one word.
abbrev pub is_sound : Call → Bool
is_sound call = not (is_empty call.name) && (list_all is_name_character call.name && not (is_empty (words call.wanted)))

abbrev pub kind_of : Option (List ℕ × List ℕ) → FormKind
kind_of None = Filter
kind_of (Some texts) = Contains texts.0 texts.1

abbrev pub sound_form : Call → Option Form
sound_form call = if is_sound call then Some (record { name = call.name; words = in_byte_order (words call.wanted); kind = kind_of call.given }) else None

-- no form holds one of these characters between its braces
abbrev pub is_form_character : ℕ → Bool
is_form_character c = not (is_one_of (codes "$\\{}") c)

-- the form that stands between `${` and `}`, if one does
abbrev pub form_of : List ℕ → Option Form
form_of inside = if list_all is_form_character inside then call_of inside >>= sound_form else None

-- What a form gives.

-- words joined by single blanks
abbrev pub spaced : List (List ℕ) → List ℕ
spaced [] = []
spaced (word ∷ rest) = word ++ flat_map (λ w. space ∷ w) rest

-- the text of a form, where these of its words are there
abbrev pub chosen : Bool → List ℕ → List ℕ → List ℕ
chosen true full short = full
chosen false full short = short

abbrev pub given_by : FormKind → List (List ℕ) → List (List ℕ) → List ℕ
given_by (Contains full short) wanted there = chosen (list_all (λ w. is_in w there) wanted) full short
given_by Filter wanted there = spaced there

-- `contains` gives the one text where all its words are there, else the other; `filter` those that are there.
abbrev pub form_text : Form → List (List ℕ) → List ℕ
form_text form there = given_by form.kind form.words there

-- those of the words that stand in a value; none where there is no value
abbrev pub words_in : List (List ℕ) → Option (List ℕ) → List (List ℕ)
words_in wanted None = []
words_in wanted (Some text) = filter (λ w. is_in w (words text)) wanted

-- The name under which a key tells what a form finds: `@` and the name, and the words, each behind a blank. No variable has
-- such a name, and no reference.
abbrev pub told_name : List ℕ → List (List ℕ) → List ℕ
told_name name wanted = 64 ∷ spaced (name ∷ wanted)

-- the name and the words that such a name says
abbrev pub as_asked : List (List ℕ) → Option (List ℕ × List (List ℕ))
as_asked (name ∷ word ∷ rest) = Some (name, word ∷ rest)
as_asked _ = None

abbrev pub asked_by : List ℕ → Option (List ℕ × List (List ℕ))
asked_by [] = None
asked_by (c ∷ rest) = if c == 64 then as_asked (words rest) else None
