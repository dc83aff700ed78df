use Rattle.std.proofs.Common.{refl}
use Rattle.std.specs.Str.Lossy.{utf8_valid_len}
use Rattle.std.specs.Str.{is_utf8, chars}
use Rattle.std.specs.Char.{encode_utf8}
use Rattle.meta_model.specs.Lines.{logical_lines}
use Rattle.meta_model.specs.Grammar.{fit_of, operator, quoted}
use Rattle.meta_model.specs.Statements.{statements, statement_of}
use Rattle.meta_model.proofs.grammar_examples.example_of_functions.Goals as goal

pub returns-clause-body : goal.returns-clause-body
unfolding statements statement_of fit_of operator quoted logical_lines utf8_valid_len is_utf8 chars encode_utf8
returns-clause-body c = refl

pub returns-clause-close_with_blanks : goal.returns-clause-close_with_blanks
unfolding statements statement_of fit_of operator quoted logical_lines utf8_valid_len is_utf8 chars encode_utf8
returns-clause-close_with_blanks c = refl

pub returns-clause-empty_body : goal.returns-clause-empty_body
unfolding statements statement_of fit_of operator quoted logical_lines utf8_valid_len is_utf8 chars encode_utf8
returns-clause-empty_body c = refl

pub returns-clause-open : goal.returns-clause-open
unfolding statements statement_of fit_of operator quoted logical_lines utf8_valid_len is_utf8 chars encode_utf8
returns-clause-open c = refl

pub returns-clause-in_configuration : goal.returns-clause-in_configuration
unfolding statements statement_of fit_of operator quoted logical_lines utf8_valid_len is_utf8 chars encode_utf8
returns-clause-in_configuration c = refl

pub returns-clause-reserved_function : goal.returns-clause-reserved_function
unfolding statements statement_of fit_of operator quoted logical_lines utf8_valid_len is_utf8 chars encode_utf8
returns-clause-reserved_function c = refl

pub returns-clause-python_in_body : goal.returns-clause-python_in_body
unfolding statements statement_of fit_of operator quoted logical_lines utf8_valid_len is_utf8 chars encode_utf8
returns-clause-python_in_body c = refl

pub returns-clause-python_in_bad_body : goal.returns-clause-python_in_bad_body
unfolding statements statement_of fit_of operator quoted logical_lines utf8_valid_len is_utf8 chars encode_utf8
returns-clause-python_in_bad_body c = refl

pub returns-clause-bad_head : goal.returns-clause-bad_head
unfolding statements statement_of fit_of operator quoted logical_lines utf8_valid_len is_utf8 chars encode_utf8
returns-clause-bad_head c = refl

pub returns-clause-def : goal.returns-clause-def
unfolding statements statement_of fit_of operator quoted logical_lines utf8_valid_len is_utf8 chars encode_utf8
returns-clause-def c = refl

pub returns-clause-python_alone : goal.returns-clause-python_alone
unfolding statements statement_of fit_of operator quoted logical_lines utf8_valid_len is_utf8 chars encode_utf8
returns-clause-python_alone c = refl

pub returns-clause-python_in_name : goal.returns-clause-python_in_name
unfolding statements statement_of fit_of operator quoted logical_lines utf8_valid_len is_utf8 chars encode_utf8
returns-clause-python_in_name c = refl

pub returns-clause-fakeroot_name : goal.returns-clause-fakeroot_name
unfolding statements statement_of fit_of operator quoted logical_lines utf8_valid_len is_utf8 chars encode_utf8
returns-clause-fakeroot_name c = refl

pub returns-clause-fakeroot_assigned : goal.returns-clause-fakeroot_assigned
unfolding statements statement_of fit_of operator quoted logical_lines utf8_valid_len is_utf8 chars encode_utf8
returns-clause-fakeroot_assigned c = refl

pub returns-clause-joined_head : goal.returns-clause-joined_head
unfolding statements statement_of fit_of operator quoted logical_lines utf8_valid_len is_utf8 chars encode_utf8
returns-clause-joined_head c = refl

pub returns-clause-two_words : goal.returns-clause-two_words
unfolding statements statement_of fit_of operator quoted logical_lines utf8_valid_len is_utf8 chars encode_utf8
returns-clause-two_words c = refl

pub returns-clause-late_function : goal.returns-clause-late_function
unfolding statements statement_of fit_of operator quoted logical_lines utf8_valid_len is_utf8 chars encode_utf8
returns-clause-late_function c = refl

pub returns-clause-python_by_carriage_return : goal.returns-clause-python_by_carriage_return
unfolding statements statement_of fit_of operator quoted logical_lines utf8_valid_len is_utf8 chars encode_utf8
returns-clause-python_by_carriage_return c = refl

pub returns-clause-carriage_return_in_front : goal.returns-clause-carriage_return_in_front
unfolding statements statement_of fit_of operator quoted logical_lines utf8_valid_len is_utf8 chars encode_utf8
returns-clause-carriage_return_in_front c = refl

pub returns-clause-open_in_configuration : goal.returns-clause-open_in_configuration
unfolding statements statement_of fit_of operator quoted logical_lines utf8_valid_len is_utf8 chars encode_utf8
returns-clause-open_in_configuration c = refl

pub returns-clause-equals_opens_nothing : goal.returns-clause-equals_opens_nothing
unfolding statements statement_of fit_of operator quoted logical_lines utf8_valid_len is_utf8 chars encode_utf8
returns-clause-equals_opens_nothing c = refl

pub returns-clause-equals_in_text : goal.returns-clause-equals_in_text
unfolding statements statement_of fit_of operator quoted logical_lines utf8_valid_len is_utf8 chars encode_utf8
returns-clause-equals_in_text c = refl

pub returns-clause-quote_opens_nothing : goal.returns-clause-quote_opens_nothing
unfolding statements statement_of fit_of operator quoted logical_lines utf8_valid_len is_utf8 chars encode_utf8
returns-clause-quote_opens_nothing c = refl
