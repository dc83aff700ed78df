-- The request that the program's words make.
use Rattle.std.specs.Prelude.{ℕ, Bool, true, false, not, List, [], Option, Some, None, find, bytes_eq, codes, option_map, option_and_then, unwrap_or, if◌then◌else◌}
use Rattle.std.specs.Str.Parse.{digits_value, without_leading_plus}
use Rattle.clap.specs.Walk.{Row, Text, all_of, first_of, is_empty}
use Rattle.clap.specs.Simple.{matches_of}
use Rattle.clap.specs.Faults.{fault_of}
use Rattle.clap.specs.declared.parser.matches.ValueSource.{ValueSource}
use Rattle.clap.specs.declared.parser.matches.ValueSource.TheVariants.{CommandLine}
use Rattle.answer_model.specs.declared.request.Request.{Request}
use Rattle.answer_model.specs.Command.{command}
use Rattle.answer_model.specs.RequestModes.{lacks_target}

-- the words themselves say so, and no default
abbrev pub is_from_words : Option ValueSource → Bool
is_from_words (Some CommandLine) = true
is_from_words _ = false

-- what was found for an option comes from the words
abbrev pub is_given : Text → List Row → Bool
is_given name rows = is_from_words (option_and_then (λ row. row.source) (find (λ row. bytes_eq row.id name) rows))

-- the number that decimal digits stand for, behind at most one `+`
abbrev pub number_of : Text → ℕ
number_of digits = digits_value 10 (without_leading_plus digits)

-- what was found for each option and for the targets, as a request
abbrev pub asked : List Row → Request
asked rows = record {
  targets = unwrap_or (all_of (codes "target") rows) [];
  task = first_of (codes "cmd") rows;
  force = is_given (codes "force") rows;
  keep_going = is_given (codes "continue") rows;
  dry = is_given (codes "dry-run") rows;
  env = is_given (codes "environment") rows;
  show = is_given (codes "show-versions") rows;
  parse_only = is_given (codes "parse-only") rows;
  setscene = not (is_given (codes "no-setscene") rows);
  sample = option_map number_of (first_of (codes "sample") rows);
}

-- the command takes the words: no step of reading them by its rules has a fault
abbrev pub are_taken : List Text → Bool
are_taken words = is_empty (fault_of command words)

-- the request of words that the command takes, where it has the targets that it needs
abbrev pub with_targets : Request → Option Request
with_targets request = if lacks_target request then None else Some request

-- the request that the words behind the program's name make, if they make one
abbrev pub request_of : List Text → Option Request
request_of words = if are_taken words then with_targets (asked (matches_of command words)) else None
