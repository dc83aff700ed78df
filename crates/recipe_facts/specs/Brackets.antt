-- Text in parentheses, as it is read from the front.
use Rattle.std.specs.Prelude.{ℕ, Bool, ◌||◌, List, [], ◌∷◌, ◌++◌, ◌==◌}
use Rattle.std.specs.List.{join_with_byte}

abbrev pub is_bracket : ℕ → Bool
is_bracket c = c == 40 || c == 41

-- open texts, the last one first, each with its `(`, and a text behind them
abbrev pub open_texts : List (List ℕ) → List ℕ → List ℕ
open_texts [] last = last
open_texts (text ∷ texts) last = open_texts texts (text ++ 40 ∷ last)

-- What is left of the open texts and the one that goes on, where it goes on with a text cut at the `)` that close nothing of it:
-- each of them closes an open text, as long as there are some.
abbrev pub with_open : List (List ℕ) → List ℕ → List (List ℕ) → List ℕ
with_open texts last [] = open_texts texts last
with_open texts last (more ∷ []) = open_texts texts (last ++ more)
with_open [] last (more ∷ (next ∷ rest)) = last ++ join_with_byte 41 (more ∷ (next ∷ rest))
with_open (text ∷ texts) last (more ∷ (next ∷ rest)) = with_open texts text (next ∷ rest)
