use Rattle.std.proofs.Common.{◌∙◌, ap, ◌++◌}
use Rattle.meta_model.specs.Script.{function_text}
use Rattle.task_model.specs.Scripts.{ended}
use Rattle.script_gen.proofs.Texts.{texts_next}
use Rattle.script_gen.proofs.text.push_functions.Goals as goal

pub loop-body-preserved : goal.loop-body-preserved
loop-body-preserved c =
    texts_next c.args.bodies.now c.loop-body.body-index c.body-item.result c.args.out.now c.loop-body.out c.push_function.new.out c.loop-body-test.true c.body-item.is c.loop-body.invariant
    (c.in_ok-push_function.ensures ∙ ap (λ n. c.loop-body.out ++ function_text n (ended c.as_str-in-loop-body.result.now)) c.as_str.ensures ∙ ap (λ t. c.loop-body.out ++ function_text c.body-item.result.0 (ended t)) c.as_str-in-loop-body.ensures)
