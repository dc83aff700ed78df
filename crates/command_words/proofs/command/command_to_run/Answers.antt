use Rattle.std.proofs.Common.{◌++◌, List, [], ◌∷◌, codes}
use Rattle.std.proofs.lemmas.Result.{IfOk-weaker}
use Rattle.clap.specs.Walk.{Rule}
use Rattle.answer_model.specs.Command.{lettered, switch, valued}
use Rattle.command_words.proofs.BuildLemmas.{rule_added}
use Rattle.command_words.proofs.command.command_to_run.Goals as goal

abbrev one : List Rule
one = lettered 99 (valued (codes "cmd")) ∷ []

abbrev two : List Rule
two = one ++ lettered 102 (switch (codes "force")) ∷ []

abbrev three : List Rule
three = two ++ lettered 107 (switch (codes "continue")) ∷ []

pub returns : goal.returns
returns c =
    let with_one = rule_added c.bare_command.result c.in_ok-arg.field-0 c.lettered_valued.result [] (lettered 99 (valued (codes "cmd")))
    c.bare_command.ensures c.lettered_valued.ensures.rule c.lettered_valued.ensures.local c.in_ok-arg.ensures in
    let with_two = rule_added c.in_ok-arg.field-0 c.in_ok-arg-2.field-0 c.lettered_switch.result one (lettered 102 (switch (codes "force")))
    with_one c.lettered_switch.ensures.rule c.lettered_switch.ensures.local c.in_ok-arg-2.ensures in
    let with_three = rule_added c.in_ok-arg-2.field-0 c.in_ok-arg-3.field-0 c.lettered_switch-2.result two (lettered 107 (switch (codes "continue")))
    with_two c.lettered_switch-2.ensures.rule c.lettered_switch-2.ensures.local c.in_ok-arg-3.ensures in
    IfOk-weaker c.arg-4.result _ _
    (λ made added. rule_added c.in_ok-arg-3.field-0 made c.switch.result three (switch (codes "no-setscene")) with_three c.switch.ensures.rule c.switch.ensures.local added)
    c.arg-4.ensures
