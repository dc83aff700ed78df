-- The pieces of a version, as they are read from its front.
use Rattle.std.specs.Prelude.{ℕ, Bool, List, [], ◌∷◌, ◌==◌, if◌then◌else◌}
use Rattle.std.specs.Char.{is_ascii_digit, is_ascii_alphabetic}
use Rattle.std.specs.List.{prefix_len}
use Rattle.load_model.specs.Versions.{number_of}
use Rattle.recipe_set.specs.declared.versions.Kind.{Kind}
use Rattle.recipe_set.specs.declared.versions.Kind.TheVariants.{Tilde, End, Digit, Letter, Other}

abbrev pub kind_of_byte : ℕ → Kind
kind_of_byte c =
    if is_ascii_digit c then Digit
    else (if is_ascii_alphabetic c then Letter
    else (if c == 126 then Tilde
    else Other))

abbrev pub kind_of : List ℕ → Kind
kind_of [] = End
kind_of (c ∷ text) = kind_of_byte c

-- how kinds rank
abbrev pub rank_of : Kind → ℕ
rank_of Tilde = 0
rank_of End = 1
rank_of Digit = 2
rank_of Letter = 3
rank_of Other = 4

abbrev pub is_of_kind : Kind → ℕ → Bool
is_of_kind kind c = rank_of (kind_of_byte c) == rank_of kind

-- how many bytes the first piece of a text has
abbrev pub piece_length : Kind → List ℕ → ℕ
piece_length Digit text = prefix_len (is_of_kind Digit) text
piece_length Letter text = prefix_len (is_of_kind Letter) text
piece_length kind text = 1

-- what orders a piece of this kind with these bytes
abbrev pub piece_weight : Kind → List ℕ → List ℕ
piece_weight Tilde piece = 0 ∷ []
piece_weight End piece = 1 ∷ []
piece_weight Digit piece = 2 ∷ (number_of piece ∷ [])
piece_weight Letter piece = 3 ∷ piece
piece_weight Other piece = 4 ∷ piece
