use Rattle.std.proofs.Common.{◌∙◌, ap, sym, subst, Ok}
use Rattle.plan_model.specs.Plans.{task_inputs, parts_of}
use Rattle.task_plan.specs.Faults.{IsPlanFault}
use Rattle.task_plan.specs.Meant.{inputs_meant}
use Rattle.task_plan.proofs.Faulting.{plan_exit_told}
use Rattle.task_plan.proofs.Stepping.{inputs_refused, shell_refused, parts_made}
use Rattle.task_plan.proofs.parts.parts_with.Goals as goal

pub returns-in_err-inputs-clause-err : goal.returns-in_err-inputs-clause-err
returns-in_err-inputs-clause-err g c =
    let files = g.L.Layers.files c.args.layers.now in
    let file = c.args.file.now in
    let keys = c.args.keys.now in
    let task = c.args.task.now in
    let fault = c.in_err-inputs.field-0.0 in
    plan_exit_told c.from_residual.result fault (parts_of files file keys task c.args.bytes) c.from_residual.ensures.1
    (λ told. inputs_refused files file keys task c.args.bytes c.args.key fault c.requires.is (subst (λ s. IsPlanFault fault (task_inputs files file s task c.args.bytes)) c.store.ensures (c.in_err-inputs.ensures.err told)))

pub returns-in_err-shell-clause-err : goal.returns-in_err-shell-clause-err
returns-in_err-shell-clause-err g c =
    let files = g.L.Layers.files c.args.layers.now in
    let file = c.args.file.now in
    let keys = c.args.keys.now in
    let task = c.args.task.now in
    let fault = c.in_err-shell.field-0.0 in
    plan_exit_told c.from_residual-in_err-shell.result fault (parts_of files file keys task c.args.bytes) c.from_residual-in_err-shell.ensures.1
    (λ told. shell_refused files file keys task c.args.bytes c.args.key (inputs_meant c.in_ok-inputs.inputs) fault c.requires.is
    (ap (λ s. task_inputs files file s task c.args.bytes) (sym c.store.ensures) ∙ c.in_ok-inputs.ensures.ok told) c.in_err-shell.ensures.err)

pub returns-clause-ok : goal.returns-clause-ok
returns-clause-ok g c = λ told.
    let files = g.L.Layers.files c.args.layers.now in
    let file = c.args.file.now in
    let keys = c.args.keys.now in
    let task = c.args.task.now in
    let shell = c.in_ok-shell.shell in
    parts_made files file keys task c.args.bytes c.args.key (inputs_meant c.in_ok-inputs.inputs) shell c.requires.is
    (ap (λ s. task_inputs files file s task c.args.bytes) (sym c.store.ensures) ∙ c.in_ok-inputs.ensures.ok told) c.in_ok-shell.ensures.ok
    ∙ ap (λ b. Ok (record { key = c.args.key; inputs = inputs_meant c.in_ok-inputs.inputs; script = shell.script; places = shell.places; nostamp = shell.nostamp; sstate = b })) (sym c.is_shared-sstate.ensures)
