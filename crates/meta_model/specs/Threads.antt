-- The number of threads that a text stands for.
use Rattle.std.specs.Prelude.{◌≡◌, ℕ, ◌≤◌, List, decimal}
use Rattle.meta_model.specs.Text.{is_blank, skip_blanks, without_end}

-- the text without the blanks around it
abbrev pub trimmed : List ℕ → List ℕ
trimmed text = without_end is_blank (skip_blanks text)

-- The text is the number, from 1 to 16, in decimal digits without a sign or leading zeros, with blanks around it or none
-- (own rule).
pub record AreThreads (text : List ℕ) (threads : ℕ) : Type 0 where
  pub digits : trimmed text ≡ decimal threads
  pub least : 1 ≤ threads
  pub most : threads ≤ 16
