use Rattle.std.proofs.Common.{◌≡◌, sym, ◌∙◌, ap, arith, false, Err, codes}
use Rattle.task_model.specs.TaskRefusal.{bad_flag, require}
use Rattle.task_model.specs.Scripts.{paired}
use Rattle.script_gen.proofs.Passing.{last_fault, fault_same}
use Rattle.script_gen.proofs.Pairs.{all_paired, input_alone, output_alone}
use Rattle.script_gen.proofs.place_pairs.paired.Goals as goal

pub returns-then-outputs-inputs-clause-err : goal.returns-then-outputs-inputs-clause-err
returns-then-outputs-inputs-clause-err c =
    let inputs = c.args.inputs.now in
    let outputs = c.args.outputs.now in
    let word = c.index-inputs-outputs.result in
    let same : paired inputs outputs ≡ Err (bad_flag (codes "sstate-inputdirs") word) = input_alone inputs outputs word c.if-outputs-inputs.true ∙ ap (λ w. Err (bad_flag (codes "sstate-inputdirs") w)) (sym c.index-inputs-outputs.is) in
    last_fault c.must_fit.result (require false (bad_flag (codes "sstate-inputdirs") word)) (paired inputs outputs) (λ fault h. fault_same fault (paired inputs outputs) (require false (bad_flag (codes "sstate-inputdirs") word)) same h) c.must_fit.ensures.err

pub returns-then-inputs-outputs-clause-err : goal.returns-then-inputs-outputs-clause-err
returns-then-inputs-outputs-clause-err c =
    let inputs = c.args.inputs.now in
    let outputs = c.args.outputs.now in
    let word = c.index-outputs-inputs.result in
    let same : paired inputs outputs ≡ Err (bad_flag (codes "sstate-outputdirs") word) = output_alone inputs outputs word c.if-inputs-outputs.true ∙ ap (λ w. Err (bad_flag (codes "sstate-outputdirs") w)) (sym c.index-outputs-inputs.is) in
    last_fault c.must_fit-then-inputs-outputs.result (require false (bad_flag (codes "sstate-outputdirs") word)) (paired inputs outputs) (λ fault h. fault_same fault (paired inputs outputs) (require false (bad_flag (codes "sstate-outputdirs") word)) same h) c.must_fit-then-inputs-outputs.ensures.err

pub returns-clause-ok : goal.returns-clause-ok
returns-clause-ok c = all_paired c.args.inputs.now c.args.outputs.now (omega arith)
