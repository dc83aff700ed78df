-- What a parse says of the number of `--sample`.
use Rattle.std.specs.Prelude.{◌≡◌, List, ℕ, Some, pos, codes}
use Rattle.clap.specs.Lexer.{without_minus}
use Rattle.clap.specs.Matches.{first_value, one_text}
use Rattle.clap.specs.Values.{IsSignedIn}
use Rattle.clap.specs.declared.parser.matches.Found.{Found}

-- a text that was found for it writes a number from 1 to 1,000, and is read as it stands but for a hyphen before it
abbrev pub HasNumber : Found → Type 0
HasNumber found = (text : List ℕ) → first_value found (codes "sample") ≡ Some text
    → IsSignedIn (pos 1) (pos 1000) text × (one_text found (codes "sample") ≡ Some (without_minus text))
