use Rattle.std.proofs.Common.{take}
use Rattle.task_model.specs.Scripts.{all_functions}
use Rattle.script_gen.specs.Steps.{called}
use Rattle.script_gen.proofs.Passing.{out}
use Rattle.script_gen.proofs.Turns.{one_fault}
use Rattle.script_gen.proofs.Parts.{functions_in_turn}
use Rattle.script_gen.proofs.calls.all_functions.Goals as goal

pub returns-in_err-must_call-clause-err : goal.returns-in_err-must_call-clause-err
returns-in_err-must_call-clause-err g c =
    let find = g.S.Lookup.finds c.args.from.now in
    let flag = c.args.flag.now in
    let words = c.args.words.now in
    let fault = c.in_err-must_call.field-0.0 in
    out c.from_residual.result fault (all_functions find flag words) c.from_residual.ensures.1
    (one_fault (called find flag) (all_functions find flag) (functions_in_turn find flag) (all_functions find flag words) (take c.loop-word.word-index words) words c.loop-word.word-index c.word-item.result fault c.word-item.is c.loop-word-test.true c.loop-word.invariant c.in_err-must_call.ensures.err)
