use Rattle.std.proofs.Common.{refl}
use Rattle.std.specs.Str.Lossy.{utf8_valid_len}
use Rattle.std.specs.Str.{is_utf8, chars}
use Rattle.std.specs.Char.{encode_utf8}
use Rattle.meta_model.specs.Lines.{logical_lines}
use Rattle.meta_model.specs.Grammar.{fit_of, operator, quoted}
use Rattle.meta_model.specs.Statements.{statements, statement_of}
use Rattle.meta_model.proofs.grammar_examples.example_of_statement_refusals.Goals as goal

pub returns-clause-python_function : goal.returns-clause-python_function
unfolding statements statement_of fit_of operator quoted logical_lines utf8_valid_len is_utf8 chars encode_utf8
returns-clause-python_function c = refl

pub returns-clause-python_text : goal.returns-clause-python_text
unfolding statements statement_of fit_of operator quoted logical_lines utf8_valid_len is_utf8 chars encode_utf8
returns-clause-python_text c = refl

pub returns-clause-fakeroot_function : goal.returns-clause-fakeroot_function
unfolding statements statement_of fit_of operator quoted logical_lines utf8_valid_len is_utf8 chars encode_utf8
returns-clause-fakeroot_function c = refl

pub returns-clause-reserved : goal.returns-clause-reserved
unfolding statements statement_of fit_of operator quoted logical_lines utf8_valid_len is_utf8 chars encode_utf8
returns-clause-reserved c = refl

pub returns-clause-one_inner_quote : goal.returns-clause-one_inner_quote
unfolding statements statement_of fit_of operator quoted logical_lines utf8_valid_len is_utf8 chars encode_utf8
returns-clause-one_inner_quote c = refl

pub returns-clause-two_inner_quotes : goal.returns-clause-two_inner_quotes
unfolding statements statement_of fit_of operator quoted logical_lines utf8_valid_len is_utf8 chars encode_utf8
returns-clause-two_inner_quotes c = refl

pub returns-clause-behind_the_quote : goal.returns-clause-behind_the_quote
unfolding statements statement_of fit_of operator quoted logical_lines utf8_valid_len is_utf8 chars encode_utf8
returns-clause-behind_the_quote c = refl

pub returns-clause-last_line_joined : goal.returns-clause-last_line_joined
unfolding statements statement_of fit_of operator quoted logical_lines utf8_valid_len is_utf8 chars encode_utf8
returns-clause-last_line_joined c = refl

pub returns-clause-comment_in_join : goal.returns-clause-comment_in_join
unfolding statements statement_of fit_of operator quoted logical_lines utf8_valid_len is_utf8 chars encode_utf8
returns-clause-comment_in_join c = refl

pub returns-clause-no_utf8 : goal.returns-clause-no_utf8
unfolding statements statement_of fit_of operator quoted logical_lines utf8_valid_len is_utf8 chars encode_utf8
returns-clause-no_utf8 c = refl

pub returns-clause-python_near_form : goal.returns-clause-python_near_form
unfolding statements statement_of fit_of operator quoted logical_lines utf8_valid_len is_utf8 chars encode_utf8
returns-clause-python_near_form c = refl

pub returns-clause-form : goal.returns-clause-form
unfolding statements statement_of fit_of operator quoted logical_lines utf8_valid_len is_utf8 chars encode_utf8
returns-clause-form c = refl
