use Rattle.std.proofs.Common.{◌++◌, codes}
use Rattle.std.proofs.lemmas.Result.{IfOk-weaker}
use Rattle.answer_model.specs.Command.{command, mode_options, rest, run_options}
use Rattle.command_words.proofs.BuildLemmas.{rule_added}
use Rattle.command_words.proofs.command.bitbake_command.Goals as goal

pub returns : goal.returns
unfolding command
returns c = IfOk-weaker c.arg.result _ _
    (λ made added. rule_added c.in_ok-command_with_modes.field-0 made c.rest.result (run_options ++ mode_options) (rest (codes "target"))
    c.in_ok-command_with_modes.ensures c.rest.ensures.rule c.rest.ensures.local added)
    c.arg.ensures
