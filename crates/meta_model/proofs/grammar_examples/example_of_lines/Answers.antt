use Rattle.std.proofs.Common.{refl}
use Rattle.std.specs.Str.Lossy.{utf8_valid_len}
use Rattle.std.specs.Str.{is_utf8, chars}
use Rattle.std.specs.Char.{encode_utf8}
use Rattle.meta_model.specs.Lines.{logical_lines}
use Rattle.meta_model.specs.Grammar.{fit_of, operator, quoted}
use Rattle.meta_model.specs.Statements.{statements, statement_of}
use Rattle.meta_model.proofs.grammar_examples.example_of_lines.Goals as goal

pub returns-clause-empty_file : goal.returns-clause-empty_file
unfolding statements statement_of fit_of operator quoted logical_lines utf8_valid_len is_utf8 chars encode_utf8
returns-clause-empty_file c = refl

pub returns-clause-dropped_lines : goal.returns-clause-dropped_lines
unfolding statements statement_of fit_of operator quoted logical_lines utf8_valid_len is_utf8 chars encode_utf8
returns-clause-dropped_lines c = refl

pub returns-clause-join : goal.returns-clause-join
unfolding statements statement_of fit_of operator quoted logical_lines utf8_valid_len is_utf8 chars encode_utf8
returns-clause-join c = refl

pub returns-clause-empty_line_ends_join : goal.returns-clause-empty_line_ends_join
unfolding statements statement_of fit_of operator quoted logical_lines utf8_valid_len is_utf8 chars encode_utf8
returns-clause-empty_line_ends_join c = refl

pub returns-clause-blank_before_join_stays : goal.returns-clause-blank_before_join_stays
unfolding statements statement_of fit_of operator quoted logical_lines utf8_valid_len is_utf8 chars encode_utf8
returns-clause-blank_before_join_stays c = refl

pub returns-clause-join_with_nothing : goal.returns-clause-join_with_nothing
unfolding statements statement_of fit_of operator quoted logical_lines utf8_valid_len is_utf8 chars encode_utf8
returns-clause-join_with_nothing c = refl

pub returns-clause-logical_line_without_text : goal.returns-clause-logical_line_without_text
unfolding statements statement_of fit_of operator quoted logical_lines utf8_valid_len is_utf8 chars encode_utf8
returns-clause-logical_line_without_text c = refl

pub returns-clause-join_faults_first : goal.returns-clause-join_faults_first
unfolding statements statement_of fit_of operator quoted logical_lines utf8_valid_len is_utf8 chars encode_utf8
returns-clause-join_faults_first c = refl

pub returns-clause-least_join_fault : goal.returns-clause-least_join_fault
unfolding statements statement_of fit_of operator quoted logical_lines utf8_valid_len is_utf8 chars encode_utf8
returns-clause-least_join_fault c = refl

pub returns-clause-white_space_at_ends : goal.returns-clause-white_space_at_ends
unfolding statements statement_of fit_of operator quoted logical_lines utf8_valid_len is_utf8 chars encode_utf8
returns-clause-white_space_at_ends c = refl

pub returns-clause-two_backslashes : goal.returns-clause-two_backslashes
unfolding statements statement_of fit_of operator quoted logical_lines utf8_valid_len is_utf8 chars encode_utf8
returns-clause-two_backslashes c = refl

pub returns-clause-join_at_last_newline : goal.returns-clause-join_at_last_newline
unfolding statements statement_of fit_of operator quoted logical_lines utf8_valid_len is_utf8 chars encode_utf8
returns-clause-join_at_last_newline c = refl

pub returns-clause-number_of_first_line : goal.returns-clause-number_of_first_line
unfolding statements statement_of fit_of operator quoted logical_lines utf8_valid_len is_utf8 chars encode_utf8
returns-clause-number_of_first_line c = refl

pub returns-clause-backslash_before_blanks : goal.returns-clause-backslash_before_blanks
unfolding statements statement_of fit_of operator quoted logical_lines utf8_valid_len is_utf8 chars encode_utf8
returns-clause-backslash_before_blanks c = refl

pub returns-clause-blanks_inside_quotes_at_end : goal.returns-clause-blanks_inside_quotes_at_end
unfolding statements statement_of fit_of operator quoted logical_lines utf8_valid_len is_utf8 chars encode_utf8
returns-clause-blanks_inside_quotes_at_end c = refl

pub returns-clause-comment_behind_text : goal.returns-clause-comment_behind_text
unfolding statements statement_of fit_of operator quoted logical_lines utf8_valid_len is_utf8 chars encode_utf8
returns-clause-comment_behind_text c = refl

pub returns-clause-comment_behind_quote : goal.returns-clause-comment_behind_quote
unfolding statements statement_of fit_of operator quoted logical_lines utf8_valid_len is_utf8 chars encode_utf8
returns-clause-comment_behind_quote c = refl

pub returns-clause-three_physical_lines : goal.returns-clause-three_physical_lines
unfolding statements statement_of fit_of operator quoted logical_lines utf8_valid_len is_utf8 chars encode_utf8
returns-clause-three_physical_lines c = refl

pub returns-clause-carriage_return_inside : goal.returns-clause-carriage_return_inside
unfolding statements statement_of fit_of operator quoted logical_lines utf8_valid_len is_utf8 chars encode_utf8
returns-clause-carriage_return_inside c = refl
