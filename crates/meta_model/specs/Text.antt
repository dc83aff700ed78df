-- Characters, pieces and words of texts, which all definitions of the language share. A text is the list of its
-- bytes; letters, digits and the characters that a rule names are ASCII everywhere (own rule).
use Rattle.std.specs.Prelude.{ℕ, ◌-◌, Bool, true, false, not, ◌&&◌, ◌||◌, List, [], ◌∷◌, ◌++◌, map, length, take, fold, Option, Some, None, ◌==◌, nat_eq, if◌then◌else◌, filter, bytes_eq}
use Rattle.std.specs.List.{list_any, list_all, starts_with, slice_split}
use Rattle.std.specs.Option.{option_map}
use Rattle.std.specs.Char.{is_ascii_alphabetic, is_ascii_alphanumeric}
use Rattle.std.specs.Ordering.{nat_cmp}
use Rattle.std.specs.Cmp.Lexicographic.{slice_cmp}
use Rattle.std.specs.declared.cmp.Ordering.{Ordering}
use Rattle.std.specs.declared.cmp.Ordering.TheVariants.{Less, Equal, Greater}

-- what follows, where there is something
infixl 10 ◌>>=◌
abbrev pub ◌>>=◌ : {A B : Type 0} → Option A → (A → Option B) → Option B
None >>= f = None
(Some x) >>= f = f x

-- The codes of the characters that the rules name.

abbrev pub tab : ℕ
tab = 9

abbrev pub newline : ℕ
newline = 10

abbrev pub carriage_return : ℕ
carriage_return = 13

abbrev pub space : ℕ
space = 32

abbrev pub double_quote : ℕ
double_quote = 34

abbrev pub dollar : ℕ
dollar = 36

abbrev pub single_quote : ℕ
single_quote = 39

abbrev pub colon : ℕ
colon = 58

abbrev pub equals : ℕ
equals = 61

abbrev pub open_bracket : ℕ
open_bracket = 91

abbrev pub backslash : ℕ
backslash = 92

abbrev pub close_bracket : ℕ
close_bracket = 93

abbrev pub open_brace : ℕ
open_brace = 123

abbrev pub close_brace : ℕ
close_brace = 125

-- A blank is a space or a tab.
abbrev pub is_blank : ℕ → Bool
is_blank c = c == space || c == tab

-- White space is a space, tab, newline or carriage return.
abbrev pub is_white : ℕ → Bool
is_white c = is_blank c || c == newline || c == carriage_return

abbrev pub is_quote : ℕ → Bool
is_quote c = c == double_quote || c == single_quote

abbrev pub is_colon : ℕ → Bool
is_colon c = c == colon

-- c is one of these characters
abbrev pub is_one_of : List ℕ → ℕ → Bool
is_one_of cs c = list_any (λ d. d == c) cs

abbrev pub is_empty : {A : Type 0} → List A → Bool
is_empty [] = true
is_empty (x ∷ xs) = false

-- s begins with t
abbrev pub begins_with : List ℕ → List ℕ → Bool
begins_with t s = starts_with nat_eq s t

-- the part t stands somewhere in s
abbrev pub holds : List ℕ → List ℕ → Bool
holds t [] = is_empty t
holds t (c ∷ cs) = begins_with t (c ∷ cs) || holds t cs

-- the text is one of the list
abbrev pub is_in : List ℕ → List (List ℕ) → Bool
is_in s ts = list_any (bytes_eq s) ts

-- two lists have the same texts in the same order
abbrev pub texts_eq : List (List ℕ) → List (List ℕ) → Bool
texts_eq [] [] = true
texts_eq (x ∷ xs) (y ∷ ys) = bytes_eq x y && texts_eq xs ys
texts_eq _ _ = false

-- s from its first character that isn't a blank
abbrev pub skip_blanks : List ℕ → List ℕ
skip_blanks [] = []
skip_blanks (c ∷ cs) = if is_blank c then skip_blanks cs else c ∷ cs

-- s without the characters at its end that pass the test
abbrev pub end_kept : (ℕ → Bool) → ℕ → List ℕ → List ℕ
end_kept p c [] = if p c then [] else c ∷ []
end_kept p c (d ∷ ds) = c ∷ d ∷ ds

abbrev pub without_end : (ℕ → Bool) → List ℕ → List ℕ
without_end p [] = []
without_end p (c ∷ cs) = end_kept p c (without_end p cs)

-- s without its last character
abbrev pub without_last : List ℕ → List ℕ
without_last s = take (length s - 1) s

-- what stands before the first c, and what behind it, where there is one
abbrev pub split_at_first : ℕ → List ℕ → Option (List ℕ × List ℕ)
split_at_first c [] = None
split_at_first c (d ∷ ds) = if d == c then Some ([], ds) else option_map (λ x. (d ∷ x.0, x.1)) (split_at_first c ds)

-- the ways to cut s in two behind its first character, the shorter fronts first
abbrev pub cuts : List ℕ → List (List ℕ × List ℕ)
cuts [] = []
cuts (c ∷ cs) = ((c ∷ []), cs) ∷ map (λ x. (c ∷ x.0, x.1)) (cuts cs)

-- the pieces that aren't empty
abbrev pub non_empty : List (List ℕ) → List (List ℕ)
non_empty pieces = filter (λ piece. not (is_empty piece)) pieces

-- The words of a text are its pieces between runs of white space.
abbrev pub words : List ℕ → List (List ℕ)
words s = non_empty (slice_split is_white s)

-- the pieces of a text between colons, without the empty ones
abbrev pub colon_pieces : List ℕ → List (List ℕ)
colon_pieces s = non_empty (slice_split is_colon s)

-- the pieces, with the separators between them again
abbrev pub woven : List (List ℕ) → List ℕ → List ℕ
woven [] _ = []
woven (piece ∷ pieces) [] = piece
woven (piece ∷ pieces) (c ∷ separators) = piece ++ (c ∷ woven pieces separators)

-- A text is cut at each single white space character; the pieces that equal one of the words go, and the white
-- space stays (BitBake User Manual, "Syntax and Operators", section "Removal (Override Style Syntax)").
abbrev pub drop_words : List ℕ → List (List ℕ) → List ℕ
drop_words text dropped =
    woven (map (λ piece. if is_in piece dropped then [] else piece) (slice_split is_white text)) (filter is_white text)

-- letters, digits and these characters
abbrev pub is_letter_digit_or : List ℕ → ℕ → Bool
is_letter_digit_or others c = is_ascii_alphanumeric c || is_one_of others c

-- letters, digits and these characters, and at least one
abbrev pub is_made_of : List ℕ → List ℕ → Bool
is_made_of others s = not (is_empty s) && list_all (is_letter_digit_or others) s

-- A shell name is a letter or `_`, then letters, digits and `_`.
abbrev pub is_shell_name : List ℕ → Bool
is_shell_name [] = false
is_shell_name (c ∷ cs) = (is_ascii_alphabetic c || c == 95) && list_all (λ d. is_ascii_alphanumeric d || d == 95) cs

-- Byte order: the first byte that differs decides, and a text that another one begins with comes first.
abbrev pub is_less : Ordering → Bool
is_less Less = true
is_less Equal = false
is_less Greater = false

abbrev pub is_before : List ℕ → List ℕ → Bool
is_before x y = is_less (slice_cmp nat_cmp x y)

-- a text put into its place in a list that ascends, where it isn't there yet
abbrev pub into_order : List (List ℕ) → List ℕ → List (List ℕ)
into_order [] text = text ∷ []
into_order (x ∷ xs) text = if bytes_eq x text then x ∷ xs else (if is_before text x then text ∷ (x ∷ xs) else x ∷ into_order xs text)

-- the texts in byte order, each once
abbrev pub in_byte_order : List (List ℕ) → List (List ℕ)
in_byte_order texts = fold into_order [] texts
