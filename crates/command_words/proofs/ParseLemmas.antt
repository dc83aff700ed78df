-- What a parse of the program's command says of its words, and what request they make.
use Rattle.std.proofs.Common.{◌≡◌, ◌∙◌, ap, arith, refl, sym, inl, inr, true, false, List, [], ◌∷◌, length}
use Rattle.std.proofs.lemmas.Bool.{ne_eqb}
use Rattle.clap.specs.Faults.{fault_of, is_simple_and_free}
use Rattle.clap.specs.Kinds.{HasKind, IsAmong, Kinds}
use Rattle.clap.specs.Matches.{found_of}
use Rattle.clap.specs.Simple.{App, HasMatchesOf, is_simple, matches_of}
use Rattle.clap.specs.Values.{kind_of}
use Rattle.clap.specs.Walk.{Text, is_empty, rows_of}
use Rattle.clap.specs.declared.error.Error.{Error}
use Rattle.clap.specs.declared.error.kind.ErrorKind.{ErrorKind}
use Rattle.clap.specs.declared.parser.matches.ArgMatches.{ArgMatches}
use Rattle.command_words.specs.declared.fault.WordsFault.TheVariants.{Memory, Usage}
use Rattle.answer_model.specs.Command.{command}
use Rattle.command_words.specs.Faults.{fault_of_kind}
use Rattle.answer_model.specs.Reading.{are_taken}

command_is_simple : is_simple command ≡ true
unfolding command
command_is_simple = refl

command_is_free : is_simple_and_free command ≡ true
unfolding command
command_is_free = refl

-- the rows that were found are those of the definition
pub rows_found : (a : App) (words : List Text) (m : ArgMatches) → a ≡ command → HasMatchesOf a words m → rows_of (found_of m) ≡ matches_of command words
rows_found a words m is h = (h (ap is_simple is ∙ command_is_simple)).0 ∙ ap (λ x. matches_of x words) is

-- a parse that succeeds has no fault
pub taken_at_ok : (a : App) (words : List Text) → a ≡ command → (is_simple_and_free a ≡ true → fault_of a words ≡ []) → are_taken words ≡ true
taken_at_ok a words is h = ap is_empty (ap (λ x. fault_of x words) (sym is) ∙ h (ap is_simple_and_free is ∙ command_is_free))

some_kind : (k : ErrorKind) (kinds : Kinds) → IsAmong k kinds → is_empty kinds ≡ false
some_kind k [] among = absurd among
some_kind k (x ∷ xs) among = ne_eqb (length (x ∷ xs)) 0 (λ e. omega arith)

-- one that fails for its words has a fault
pub refused_at_err : (a : App) (words : List Text) (e : Error) → a ≡ command → (is_simple_and_free a ≡ true → HasKind (fault_of a words) e)
    → fault_of_kind (kind_of e) ≡ Usage → are_taken words ≡ false
refused_at_err a words e is h usage =
    elim (h (ap is_simple_and_free is ∙ command_is_free)) [
      | inl memory ↦
          let bad : Memory ≡ Usage = sym (ap fault_of_kind memory) ∙ usage in
          cc
      | inr among ↦ ap (λ x. is_empty (fault_of x words)) (sym is) ∙ some_kind (kind_of e) (fault_of a words) among
    ]
