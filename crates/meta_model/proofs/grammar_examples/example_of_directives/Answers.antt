use Rattle.std.proofs.Common.{refl}
use Rattle.std.specs.Str.Lossy.{utf8_valid_len}
use Rattle.std.specs.Str.{is_utf8, chars}
use Rattle.std.specs.Char.{encode_utf8}
use Rattle.meta_model.specs.Lines.{logical_lines}
use Rattle.meta_model.specs.Grammar.{fit_of, operator, quoted}
use Rattle.meta_model.specs.Statements.{statements, statement_of}
use Rattle.meta_model.proofs.grammar_examples.example_of_directives.Goals as goal

pub returns-clause-export_assignment : goal.returns-clause-export_assignment
unfolding statements statement_of fit_of operator quoted logical_lines utf8_valid_len is_utf8 chars encode_utf8
returns-clause-export_assignment c = refl

pub returns-clause-variable_named_export : goal.returns-clause-variable_named_export
unfolding statements statement_of fit_of operator quoted logical_lines utf8_valid_len is_utf8 chars encode_utf8
returns-clause-variable_named_export c = refl

pub returns-clause-export_name : goal.returns-clause-export_name
unfolding statements statement_of fit_of operator quoted logical_lines utf8_valid_len is_utf8 chars encode_utf8
returns-clause-export_name c = refl

pub returns-clause-unset_name_and_flag : goal.returns-clause-unset_name_and_flag
unfolding statements statement_of fit_of operator quoted logical_lines utf8_valid_len is_utf8 chars encode_utf8
returns-clause-unset_name_and_flag c = refl

pub returns-clause-flag_with_at : goal.returns-clause-flag_with_at
unfolding statements statement_of fit_of operator quoted logical_lines utf8_valid_len is_utf8 chars encode_utf8
returns-clause-flag_with_at c = refl

pub returns-clause-flag_characters : goal.returns-clause-flag_characters
unfolding statements statement_of fit_of operator quoted logical_lines utf8_valid_len is_utf8 chars encode_utf8
returns-clause-flag_characters c = refl

pub returns-clause-blank_before_flag : goal.returns-clause-blank_before_flag
unfolding statements statement_of fit_of operator quoted logical_lines utf8_valid_len is_utf8 chars encode_utf8
returns-clause-blank_before_flag c = refl

pub returns-clause-include_and_require : goal.returns-clause-include_and_require
unfolding statements statement_of fit_of operator quoted logical_lines utf8_valid_len is_utf8 chars encode_utf8
returns-clause-include_and_require c = refl

pub returns-clause-python_path : goal.returns-clause-python_path
unfolding statements statement_of fit_of operator quoted logical_lines utf8_valid_len is_utf8 chars encode_utf8
returns-clause-python_path c = refl

pub returns-clause-include_nothing : goal.returns-clause-include_nothing
unfolding statements statement_of fit_of operator quoted logical_lines utf8_valid_len is_utf8 chars encode_utf8
returns-clause-include_nothing c = refl

pub returns-clause-inherit_in_configuration : goal.returns-clause-inherit_in_configuration
unfolding statements statement_of fit_of operator quoted logical_lines utf8_valid_len is_utf8 chars encode_utf8
returns-clause-inherit_in_configuration c = refl

pub returns-clause-inherit : goal.returns-clause-inherit
unfolding statements statement_of fit_of operator quoted logical_lines utf8_valid_len is_utf8 chars encode_utf8
returns-clause-inherit c = refl

pub returns-clause-carriage_return_in_text : goal.returns-clause-carriage_return_in_text
unfolding statements statement_of fit_of operator quoted logical_lines utf8_valid_len is_utf8 chars encode_utf8
returns-clause-carriage_return_in_text c = refl

pub returns-clause-backslash_in_text : goal.returns-clause-backslash_in_text
unfolding statements statement_of fit_of operator quoted logical_lines utf8_valid_len is_utf8 chars encode_utf8
returns-clause-backslash_in_text c = refl

pub returns-clause-inherit_defer : goal.returns-clause-inherit_defer
unfolding statements statement_of fit_of operator quoted logical_lines utf8_valid_len is_utf8 chars encode_utf8
returns-clause-inherit_defer c = refl

pub returns-clause-unset_reserved : goal.returns-clause-unset_reserved
unfolding statements statement_of fit_of operator quoted logical_lines utf8_valid_len is_utf8 chars encode_utf8
returns-clause-unset_reserved c = refl

pub returns-clause-reserved_inside : goal.returns-clause-reserved_inside
unfolding statements statement_of fit_of operator quoted logical_lines utf8_valid_len is_utf8 chars encode_utf8
returns-clause-reserved_inside c = refl

pub returns-clause-word_joined_to_name : goal.returns-clause-word_joined_to_name
unfolding statements statement_of fit_of operator quoted logical_lines utf8_valid_len is_utf8 chars encode_utf8
returns-clause-word_joined_to_name c = refl
