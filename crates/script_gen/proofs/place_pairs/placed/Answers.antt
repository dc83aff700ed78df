use Rattle.std.proofs.Common.{◌≡◌, sym, ◌∙◌, ap, subst, Ok}
use Rattle.std.specs.Prelude.{zip}
use Rattle.task_model.specs.Scripts.{paired}
use Rattle.script_gen.specs.Faults.{IsScriptFault}
use Rattle.script_gen.specs.Steps.{placed}
use Rattle.script_gen.proofs.Passing.{out, fault_on, fault_same}
use Rattle.meta_model.proofs.Passing.{goes_on}
use Rattle.script_gen.proofs.Parts.{Names, Paired, both, inputs_refused, outputs_refused, both_given}
use Rattle.script_gen.proofs.place_pairs.placed.Goals as goal

pub returns-in_err-inputs-clause-err : goal.returns-in_err-inputs-clause-err
returns-in_err-inputs-clause-err g c =
    let find = g.S.Lookup.finds c.args.from.now in
    let flags = g.S.Sight.flags c.args.from.now in
    let fault = c.in_err-inputs.field-0.0 in
    out c.from_residual.result fault (placed find flags) c.from_residual.ensures.1 (inputs_refused find flags fault c.in_err-inputs.ensures.err)

pub returns-in_err-outputs-clause-err : goal.returns-in_err-outputs-clause-err
returns-in_err-outputs-clause-err g c =
    let find = g.S.Lookup.finds c.args.from.now in
    let flags = g.S.Sight.flags c.args.from.now in
    let fault = c.in_err-outputs.field-0.0 in
    let inputs : Names × Names = (c.in_ok-inputs.inputs.words, c.in_ok-inputs.inputs.places) in
    out c.from_residual-in_err-outputs.result fault (placed find flags) c.from_residual-in_err-outputs.ensures.1 (outputs_refused find flags inputs fault c.in_ok-inputs.ensures.ok c.in_err-outputs.ensures.err)

pub returns-in_err-paired-clause-err : goal.returns-in_err-paired-clause-err
returns-in_err-paired-clause-err g c =
    let find = g.S.Lookup.finds c.args.from.now in
    let flags = g.S.Sight.flags c.args.from.now in
    let fault = c.in_err-paired.field-0.0 in
    let inputs : Names × Names = (c.in_ok-inputs.inputs.words, c.in_ok-inputs.inputs.places) in
    let outputs : Names × Names = (c.in_ok-outputs.outputs.words, c.in_ok-outputs.outputs.places) in
    let refused : IsScriptFault fault (paired inputs.0 outputs.0) = subst (λ a. IsScriptFault fault (paired a outputs.0)) c.as_slice.ensures (subst (λ b. IsScriptFault fault (paired c.as_slice.result.now b)) c.as_slice-2.ensures c.in_err-paired.ensures.err) in
    out c.from_residual-in_err-paired.result fault (placed find flags) c.from_residual-in_err-paired.ensures.1
    (fault_same fault (placed find flags) (both inputs outputs) (both_given find flags inputs outputs c.in_ok-inputs.ensures.ok c.in_ok-outputs.ensures.ok) (fault_on fault (paired inputs.0 outputs.0) (λ pairs. let all : Paired = zip inputs.1 outputs.1 in Ok all) refused))

pub returns-clause-ok : goal.returns-clause-ok
returns-clause-ok g c =
    let find = g.S.Lookup.finds c.args.from.now in
    let flags = g.S.Sight.flags c.args.from.now in
    let inputs : Names × Names = (c.in_ok-inputs.inputs.words, c.in_ok-inputs.inputs.places) in
    let outputs : Names × Names = (c.in_ok-outputs.outputs.words, c.in_ok-outputs.outputs.places) in
    let fits : paired inputs.0 outputs.0 ≡ Ok tt = ap (λ a. paired a outputs.0) (sym c.as_slice.ensures) ∙ ap (paired c.as_slice.result.now) (sym c.as_slice-2.ensures) ∙ c.in_ok-paired.ensures.ok in
    let pairs : c.in_ok-pairs_of.field-0 ≡ zip inputs.1 outputs.1 = c.in_ok-pairs_of.ensures ∙ ap (λ a. zip a c.as_slice-4.result.now) c.as_slice-3.ensures ∙ ap (zip inputs.1) c.as_slice-4.ensures in
    both_given find flags inputs outputs c.in_ok-inputs.ensures.ok c.in_ok-outputs.ensures.ok ∙ goes_on (paired inputs.0 outputs.0) tt (λ pairs. let all : Paired = zip inputs.1 outputs.1 in Ok all) fits ∙ ap Ok (sym pairs)
