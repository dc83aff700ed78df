use Rattle.std.proofs.Common.{◌++◌, List, [], ◌∷◌, codes}
use Rattle.std.proofs.lemmas.Result.{IfOk-weaker}
use Rattle.clap.specs.Walk.{Rule}
use Rattle.answer_model.specs.Command.{lettered, numbered, run_options, switch, valued}
use Rattle.command_words.proofs.BuildLemmas.{rule_added}
use Rattle.command_words.proofs.command.command_with_modes.Goals as goal

abbrev one : List Rule
one = run_options ++ lettered 110 (switch (codes "dry-run")) ∷ []

abbrev two : List Rule
two = one ++ lettered 101 (switch (codes "environment")) ∷ []

abbrev three : List Rule
three = two ++ lettered 115 (switch (codes "show-versions")) ∷ []

abbrev four : List Rule
four = three ++ lettered 112 (switch (codes "parse-only")) ∷ []

pub returns : goal.returns
returns c =
    let with_one = rule_added c.in_ok-command_to_run.field-0 c.in_ok-arg.field-0 c.lettered_switch.result run_options (lettered 110 (switch (codes "dry-run")))
    c.in_ok-command_to_run.ensures c.lettered_switch.ensures.rule c.lettered_switch.ensures.local c.in_ok-arg.ensures in
    let with_two = rule_added c.in_ok-arg.field-0 c.in_ok-arg-2.field-0 c.lettered_switch-2.result one (lettered 101 (switch (codes "environment")))
    with_one c.lettered_switch-2.ensures.rule c.lettered_switch-2.ensures.local c.in_ok-arg-2.ensures in
    let with_three = rule_added c.in_ok-arg-2.field-0 c.in_ok-arg-3.field-0 c.lettered_switch-3.result two (lettered 115 (switch (codes "show-versions")))
    with_two c.lettered_switch-3.ensures.rule c.lettered_switch-3.ensures.local c.in_ok-arg-3.ensures in
    let with_four = rule_added c.in_ok-arg-3.field-0 c.in_ok-arg-4.field-0 c.lettered_switch-4.result three (lettered 112 (switch (codes "parse-only")))
    with_three c.lettered_switch-4.ensures.rule c.lettered_switch-4.ensures.local c.in_ok-arg-4.ensures in
    IfOk-weaker c.arg-5.result _ _
    (λ made added. rule_added c.in_ok-arg-4.field-0 made c.numbered.result four (numbered 1 1000 (valued (codes "sample"))) with_four c.numbered.ensures.rule c.numbered.ensures.local added)
    c.arg-5.ensures
