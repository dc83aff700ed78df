use Rattle.std.proofs.Common.{refl}
use Rattle.std.specs.Str.Lossy.{utf8_valid_len}
use Rattle.std.specs.Str.{is_utf8, chars}
use Rattle.std.specs.Char.{encode_utf8}
use Rattle.meta_model.specs.Lines.{logical_lines}
use Rattle.meta_model.specs.Grammar.{fit_of, operator, quoted}
use Rattle.meta_model.specs.Statements.{statements, statement_of}
use Rattle.meta_model.proofs.grammar_examples.example_of_tasks.Goals as goal

pub returns-clause-export_functions : goal.returns-clause-export_functions
unfolding statements statement_of fit_of operator quoted logical_lines utf8_valid_len is_utf8 chars encode_utf8
returns-clause-export_functions c = refl

pub returns-clause-export_functions_in_recipe : goal.returns-clause-export_functions_in_recipe
unfolding statements statement_of fit_of operator quoted logical_lines utf8_valid_len is_utf8 chars encode_utf8
returns-clause-export_functions_in_recipe c = refl

pub returns-clause-export_functions_of_odd_words : goal.returns-clause-export_functions_of_odd_words
unfolding statements statement_of fit_of operator quoted logical_lines utf8_valid_len is_utf8 chars encode_utf8
returns-clause-export_functions_of_odd_words c = refl

pub returns-clause-parts_in_either_order : goal.returns-clause-parts_in_either_order
unfolding statements statement_of fit_of operator quoted logical_lines utf8_valid_len is_utf8 chars encode_utf8
returns-clause-parts_in_either_order c = refl

pub returns-clause-no_parts : goal.returns-clause-no_parts
unfolding statements statement_of fit_of operator quoted logical_lines utf8_valid_len is_utf8 chars encode_utf8
returns-clause-no_parts c = refl

pub returns-clause-part_twice : goal.returns-clause-part_twice
unfolding statements statement_of fit_of operator quoted logical_lines utf8_valid_len is_utf8 chars encode_utf8
returns-clause-part_twice c = refl

pub returns-clause-part_without_words : goal.returns-clause-part_without_words
unfolding statements statement_of fit_of operator quoted logical_lines utf8_valid_len is_utf8 chars encode_utf8
returns-clause-part_without_words c = refl

pub returns-clause-no_task : goal.returns-clause-no_task
unfolding statements statement_of fit_of operator quoted logical_lines utf8_valid_len is_utf8 chars encode_utf8
returns-clause-no_task c = refl

pub returns-clause-no_shell_name : goal.returns-clause-no_shell_name
unfolding statements statement_of fit_of operator quoted logical_lines utf8_valid_len is_utf8 chars encode_utf8
returns-clause-no_shell_name c = refl

pub returns-clause-no_shell_name_after : goal.returns-clause-no_shell_name_after
unfolding statements statement_of fit_of operator quoted logical_lines utf8_valid_len is_utf8 chars encode_utf8
returns-clause-no_shell_name_after c = refl

pub returns-clause-deltask_after : goal.returns-clause-deltask_after
unfolding statements statement_of fit_of operator quoted logical_lines utf8_valid_len is_utf8 chars encode_utf8
returns-clause-deltask_after c = refl

pub returns-clause-addtask_with_carriage_return : goal.returns-clause-addtask_with_carriage_return
unfolding statements statement_of fit_of operator quoted logical_lines utf8_valid_len is_utf8 chars encode_utf8
returns-clause-addtask_with_carriage_return c = refl

pub returns-clause-addtask_in_configuration : goal.returns-clause-addtask_in_configuration
unfolding statements statement_of fit_of operator quoted logical_lines utf8_valid_len is_utf8 chars encode_utf8
returns-clause-addtask_in_configuration c = refl
