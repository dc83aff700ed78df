-- Bytes that are a text, and bytes that are none.
use Rattle.std.proofs.Common.{◌≡◌, ℕ, ◌+◌, ◌==◌, Bool, true, false, List, length, take, refl, Err, count_by, one-add, ◌<◌, arith}
use Rattle.std.specs.Str.{IsUtf8}
use Rattle.std.specs.Str.Lossy.{utf8_valid_len}
use Rattle.std.proofs.lemmas.Str.{utf8_valid_len-IsUtf8}
use Rattle.std.proofs.lemmas.Bool.{eqb-true, eq-eqb}
use Rattle.meta_model.specs.declared.line.SyntaxFault.TheVariants.{NotUtf8}
use Rattle.meta_model.specs.Text.{newline}
use Rattle.meta_model.specs.Lines.{lines_of_text, logical_lines}

-- bytes that are UTF-8 have the lines of their text
pub logical_lines-text : (bs : List ℕ) → IsUtf8 bs → logical_lines bs ≡ lines_of_text bs
unfolding logical_lines
logical_lines-text bs h = rw (eq-eqb (utf8_valid_len bs) (length bs) (utf8_valid_len-IsUtf8 bs h))

not_whole : (m n : ℕ) (b : Bool) → m < n → (m == n) ≡ b → b ≡ false
not_whole m n false h e = refl
not_whole m n true h e = absurd (omega (arith, eqb-true m n e))

-- bytes of which only the first n are UTF-8 have a fault behind them
pub logical_lines-no_text : (bs : List ℕ) (n : ℕ) → n ≡ utf8_valid_len bs → n < length bs → logical_lines bs ≡ Err (1 + count_by (λ b. b == newline) (take n bs), NotUtf8)
unfolding logical_lines
logical_lines-no_text bs n e h = rw (← e) (rw (not_whole n (length bs) (n == length bs) h refl, one-add))
