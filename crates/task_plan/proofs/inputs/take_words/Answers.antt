use Rattle.std.proofs.Common.{◌∙◌, subst}
use Rattle.plan_model.specs.Inputs.{input_words, inputs_of}
use Rattle.task_plan.specs.Faults.{IsPlanFault}
use Rattle.task_plan.specs.Meant.{inputs_meant}
use Rattle.task_plan.specs.Steps.{word_taken}
use Rattle.task_plan.proofs.Faulting.{plan_exit_told, counts_exit}
use Rattle.task_plan.proofs.Inputting.{words_fault}
use Rattle.task_plan.proofs.inputs.take_words.Goals as goal

pub returns-in_err-take_word-clause-err : goal.returns-in_err-take_word-clause-err
returns-in_err-take_word-clause-err g c =
    let files = g.L.Layers.files c.args.layers.now in
    let file = c.args.file.now in
    let whole = inputs_of files file (inputs_meant c.args.inputs.now) (input_words c.args.words.now) in
    let fault = c.in_err-take_word.field-0.0 in
    let inv = c.loop-word.invariant in
    let word = c.word-item.result in
    plan_exit_told c.from_residual.result fault whole c.from_residual.ensures.1
    (λ told. words_fault files file (inputs_meant c.loop-word.inputs) c.args.words.now c.loop-word.word-index word whole fault c.word-item.is c.loop-word-test.true (inv.taken told)
    (subst (λ w. IsPlanFault fault (word_taken files file (inputs_meant c.loop-word.inputs) w)) c.as_str.ensures (subst (λ f. IsPlanFault fault (word_taken f file (inputs_meant c.loop-word.inputs) c.as_str.result.now)) inv.same (c.in_err-take_word.ensures.err told))))

pub returns-in_err-take_word-clause-same : goal.returns-in_err-take_word-clause-same
returns-in_err-take_word-clause-same g c = c.in_err-take_word.ensures.same ∙ c.loop-word.invariant.same

pub returns-in_err-take_word-clause-cause : goal.returns-in_err-take_word-clause-cause
returns-in_err-take_word-clause-cause g c = counts_exit c.from_residual.result c.in_err-take_word.field-0.0 _ _ _ c.from_residual.ensures.1 c.loop-word.invariant.faults c.in_err-take_word.ensures.cause
