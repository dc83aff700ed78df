-- What was found for an option, by its row.
use Rattle.std.proofs.Common.{◌≡◌, ◌∙◌, ap, refl, sym}
use Rattle.std.specs.Prelude.{Option, Some, None, find, option_and_then, option_map}
use Rattle.std.specs.Str.{bytes_eq}
use Rattle.clap.specs.Facts.{Entry}
use Rattle.clap.specs.Matches.{matched_of}
use Rattle.clap.specs.Walk.{Row, Text, row_of, rows_of}
use Rattle.clap.specs.declared.parser.matches.Found.{Found}
use Rattle.clap.specs.declared.parser.matches.MatchedArg.{MatchedArg}
use Rattle.clap.specs.declared.parser.matches.ValueSource.{ValueSource}
use Rattle.clap.proofs.WalkLemmas.{find_row}
use Rattle.answer_model.specs.Reading.{is_from_words, is_given}

source-rows : (f : Found) (id : Text) → option_and_then (λ (a : MatchedArg). a.source) (matched_of f id)
    ≡ option_and_then (λ (row : Row). row.source) (find (λ row. bytes_eq row.id id) (rows_of f))
source-rows f id = go (find (λ (e : Entry). bytes_eq e.0.now id) f.entries.items) ∙ ap (option_and_then (λ (row : Row). row.source)) (sym (find_row f.entries.items id))
  where
    go : (o : Option Entry) → option_and_then (λ (a : MatchedArg). a.source) (option_map (λ e. e.1) o) ≡ option_and_then (λ (row : Row). row.source) (option_map row_of o)
    go None = refl
    go (Some e) = refl

-- where a value came from says whether it is given
pub given_by_source : (f : Found) (id : Text) (o : Option ValueSource) → o ≡ option_and_then (λ (a : MatchedArg). a.source) (matched_of f id)
    → is_from_words o ≡ is_given id (rows_of f)
given_by_source f id o is = ap is_from_words (is ∙ source-rows f id)
