use Rattle.std.proofs.Common.{refl, lit<}
use Rattle.std.proofs.lemmas.Fmt.{decimal_digit}
use Rattle.read_modes.proofs.mode_examples.example_of_lines.Goals as goal

pub returns-clause-line : goal.returns-clause-line
returns-clause-line c = rw (decimal_digit 2 (lit< tt)) refl

pub returns-clause-no_detail : goal.returns-clause-no_detail
returns-clause-no_detail c = rw (decimal_digit 1 (lit< tt)) refl

pub returns-clause-parsed : goal.returns-clause-parsed
returns-clause-parsed c = rw (decimal_digit 2 (lit< tt)) refl
