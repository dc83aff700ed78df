use Rattle.std.proofs.Common.{refl}
use Rattle.std.specs.Str.Lossy.{utf8_valid_len}
use Rattle.std.specs.Str.{is_utf8, chars}
use Rattle.std.specs.Char.{encode_utf8}
use Rattle.meta_model.specs.Lines.{logical_lines}
use Rattle.meta_model.specs.Grammar.{fit_of, operator, quoted}
use Rattle.meta_model.specs.Statements.{statements, statement_of}
use Rattle.meta_model.proofs.grammar_examples.example_of_quotes.Goals as goal

pub returns-clause-one_quote : goal.returns-clause-one_quote
unfolding statements statement_of fit_of operator quoted logical_lines utf8_valid_len is_utf8 chars encode_utf8
returns-clause-one_quote c = refl

pub returns-clause-empty_text : goal.returns-clause-empty_text
unfolding statements statement_of fit_of operator quoted logical_lines utf8_valid_len is_utf8 chars encode_utf8
returns-clause-empty_text c = refl

pub returns-clause-other_quote : goal.returns-clause-other_quote
unfolding statements statement_of fit_of operator quoted logical_lines utf8_valid_len is_utf8 chars encode_utf8
returns-clause-other_quote c = refl

pub returns-clause-single_quotes : goal.returns-clause-single_quotes
unfolding statements statement_of fit_of operator quoted logical_lines utf8_valid_len is_utf8 chars encode_utf8
returns-clause-single_quotes c = refl

pub returns-clause-one_single_inside : goal.returns-clause-one_single_inside
unfolding statements statement_of fit_of operator quoted logical_lines utf8_valid_len is_utf8 chars encode_utf8
returns-clause-one_single_inside c = refl

pub returns-clause-unequal_quotes : goal.returns-clause-unequal_quotes
unfolding statements statement_of fit_of operator quoted logical_lines utf8_valid_len is_utf8 chars encode_utf8
returns-clause-unequal_quotes c = refl

pub returns-clause-python_behind_quote : goal.returns-clause-python_behind_quote
unfolding statements statement_of fit_of operator quoted logical_lines utf8_valid_len is_utf8 chars encode_utf8
returns-clause-python_behind_quote c = refl

pub returns-clause-inner_quote_of_flag : goal.returns-clause-inner_quote_of_flag
unfolding statements statement_of fit_of operator quoted logical_lines utf8_valid_len is_utf8 chars encode_utf8
returns-clause-inner_quote_of_flag c = refl

pub returns-clause-quote_before_reserved : goal.returns-clause-quote_before_reserved
unfolding statements statement_of fit_of operator quoted logical_lines utf8_valid_len is_utf8 chars encode_utf8
returns-clause-quote_before_reserved c = refl

pub returns-clause-python_before_quote : goal.returns-clause-python_before_quote
unfolding statements statement_of fit_of operator quoted logical_lines utf8_valid_len is_utf8 chars encode_utf8
returns-clause-python_before_quote c = refl

pub returns-clause-reserved_before_bad : goal.returns-clause-reserved_before_bad
unfolding statements statement_of fit_of operator quoted logical_lines utf8_valid_len is_utf8 chars encode_utf8
returns-clause-reserved_before_bad c = refl

pub returns-clause-backslash_in_quotes : goal.returns-clause-backslash_in_quotes
unfolding statements statement_of fit_of operator quoted logical_lines utf8_valid_len is_utf8 chars encode_utf8
returns-clause-backslash_in_quotes c = refl

pub returns-clause-two_bytes : goal.returns-clause-two_bytes
unfolding statements statement_of fit_of operator quoted logical_lines utf8_valid_len is_utf8 chars encode_utf8
returns-clause-two_bytes c = refl

pub returns-clause-letters_are_ascii : goal.returns-clause-letters_are_ascii
unfolding statements statement_of fit_of operator quoted logical_lines utf8_valid_len is_utf8 chars encode_utf8
returns-clause-letters_are_ascii c = refl

pub returns-clause-line_of_bad_byte : goal.returns-clause-line_of_bad_byte
unfolding statements statement_of fit_of operator quoted logical_lines utf8_valid_len is_utf8 chars encode_utf8
returns-clause-line_of_bad_byte c = refl
