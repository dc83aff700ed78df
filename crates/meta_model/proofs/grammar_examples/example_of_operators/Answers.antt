use Rattle.std.proofs.Common.{refl}
use Rattle.std.specs.Str.Lossy.{utf8_valid_len}
use Rattle.std.specs.Str.{is_utf8, chars}
use Rattle.std.specs.Char.{encode_utf8}
use Rattle.meta_model.specs.Lines.{logical_lines}
use Rattle.meta_model.specs.Grammar.{fit_of, operator, quoted}
use Rattle.meta_model.specs.Statements.{statements, statement_of}
use Rattle.meta_model.proofs.grammar_examples.example_of_operators.Goals as goal

pub returns-clause-set : goal.returns-clause-set
unfolding statements statement_of fit_of operator quoted logical_lines utf8_valid_len is_utf8 chars encode_utf8
returns-clause-set c = refl

pub returns-clause-now : goal.returns-clause-now
unfolding statements statement_of fit_of operator quoted logical_lines utf8_valid_len is_utf8 chars encode_utf8
returns-clause-now c = refl

pub returns-clause-soft : goal.returns-clause-soft
unfolding statements statement_of fit_of operator quoted logical_lines utf8_valid_len is_utf8 chars encode_utf8
returns-clause-soft c = refl

pub returns-clause-weak : goal.returns-clause-weak
unfolding statements statement_of fit_of operator quoted logical_lines utf8_valid_len is_utf8 chars encode_utf8
returns-clause-weak c = refl

pub returns-clause-add_blank : goal.returns-clause-add_blank
unfolding statements statement_of fit_of operator quoted logical_lines utf8_valid_len is_utf8 chars encode_utf8
returns-clause-add_blank c = refl

pub returns-clause-put_blank : goal.returns-clause-put_blank
unfolding statements statement_of fit_of operator quoted logical_lines utf8_valid_len is_utf8 chars encode_utf8
returns-clause-put_blank c = refl

pub returns-clause-add : goal.returns-clause-add
unfolding statements statement_of fit_of operator quoted logical_lines utf8_valid_len is_utf8 chars encode_utf8
returns-clause-add c = refl

pub returns-clause-put : goal.returns-clause-put
unfolding statements statement_of fit_of operator quoted logical_lines utf8_valid_len is_utf8 chars encode_utf8
returns-clause-put c = refl

pub returns-clause-longest_operator : goal.returns-clause-longest_operator
unfolding statements statement_of fit_of operator quoted logical_lines utf8_valid_len is_utf8 chars encode_utf8
returns-clause-longest_operator c = refl

pub returns-clause-shortest_name : goal.returns-clause-shortest_name
unfolding statements statement_of fit_of operator quoted logical_lines utf8_valid_len is_utf8 chars encode_utf8
returns-clause-shortest_name c = refl

pub returns-clause-blanks_round_operator : goal.returns-clause-blanks_round_operator
unfolding statements statement_of fit_of operator quoted logical_lines utf8_valid_len is_utf8 chars encode_utf8
returns-clause-blanks_round_operator c = refl

pub returns-clause-plus_in_name : goal.returns-clause-plus_in_name
unfolding statements statement_of fit_of operator quoted logical_lines utf8_valid_len is_utf8 chars encode_utf8
returns-clause-plus_in_name c = refl

pub returns-clause-plus_alone : goal.returns-clause-plus_alone
unfolding statements statement_of fit_of operator quoted logical_lines utf8_valid_len is_utf8 chars encode_utf8
returns-clause-plus_alone c = refl

pub returns-clause-no_name : goal.returns-clause-no_name
unfolding statements statement_of fit_of operator quoted logical_lines utf8_valid_len is_utf8 chars encode_utf8
returns-clause-no_name c = refl

pub returns-clause-blank_in_name : goal.returns-clause-blank_in_name
unfolding statements statement_of fit_of operator quoted logical_lines utf8_valid_len is_utf8 chars encode_utf8
returns-clause-blank_in_name c = refl

pub returns-clause-reference_in_name : goal.returns-clause-reference_in_name
unfolding statements statement_of fit_of operator quoted logical_lines utf8_valid_len is_utf8 chars encode_utf8
returns-clause-reference_in_name c = refl

pub returns-clause-brace_alone : goal.returns-clause-brace_alone
unfolding statements statement_of fit_of operator quoted logical_lines utf8_valid_len is_utf8 chars encode_utf8
returns-clause-brace_alone c = refl

pub returns-clause-weak_late_name : goal.returns-clause-weak_late_name
unfolding statements statement_of fit_of operator quoted logical_lines utf8_valid_len is_utf8 chars encode_utf8
returns-clause-weak_late_name c = refl

pub returns-clause-weak_flag_of_late_name : goal.returns-clause-weak_flag_of_late_name
unfolding statements statement_of fit_of operator quoted logical_lines utf8_valid_len is_utf8 chars encode_utf8
returns-clause-weak_flag_of_late_name c = refl

pub returns-clause-keyword_first : goal.returns-clause-keyword_first
unfolding statements statement_of fit_of operator quoted logical_lines utf8_valid_len is_utf8 chars encode_utf8
returns-clause-keyword_first c = refl

pub returns-clause-late_by_second_keyword : goal.returns-clause-late_by_second_keyword
unfolding statements statement_of fit_of operator quoted logical_lines utf8_valid_len is_utf8 chars encode_utf8
returns-clause-late_by_second_keyword c = refl

pub returns-clause-slash_no_operator : goal.returns-clause-slash_no_operator
unfolding statements statement_of fit_of operator quoted logical_lines utf8_valid_len is_utf8 chars encode_utf8
returns-clause-slash_no_operator c = refl
