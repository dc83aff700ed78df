use Rattle.std.proofs.Common.{sym, ◌∙◌, ap, ◌+◌, drop}
use Rattle.task_model.specs.Scripts.{told_values}
use Rattle.script_gen.specs.Steps.{told_value}
use Rattle.meta_model.specs.Passing.{behind}
use Rattle.meta_model.proofs.Passing.{one_turn}
use Rattle.script_gen.proofs.Passing.{out}
use Rattle.script_gen.proofs.Turns.{one_fault}
use Rattle.script_gen.proofs.Parts.{values_in_turn}
use Rattle.script_gen.proofs.told.told_values.Goals as goal

pub returns-in_err-told_value-clause-err : goal.returns-in_err-told_value-clause-err
returns-in_err-told_value-clause-err g c =
    let find = g.L.Lookup.finds c.args.from.now in
    let names = c.args.names.now in
    let fault = c.in_err-told_value.field-0.0 in
    out c.from_residual.result fault (told_values find names) c.from_residual.ensures.1
    (one_fault (told_value find) (told_values find) (values_in_turn find) (told_values find names) c.loop-name.list names c.loop-name.name-index c.name-item.result fault c.name-item.is c.loop-name-test.true c.loop-name.invariant c.in_err-told_value.ensures.err)

pub loop-name-preserved : goal.loop-name-preserved
loop-name-preserved g c =
    let find = g.L.Lookup.finds c.args.from.now in
    let names = c.args.names.now in
    one_turn (told_value find) (told_values find) (values_in_turn find) (told_values find names) c.loop-name.list names c.loop-name.name-index c.name-item.result c.in_ok-told_value.field-0 c.name-item.is c.loop-name-test.true c.loop-name.invariant c.in_ok-told_value.ensures.ok
    ∙ ap (λ l. behind l (told_values find (drop (c.loop-name.name-index + 1) names))) (sym c.in_ok-push.ensures.ok)
