use Rattle.std.proofs.Common.{◌∙◌, ap, sym, Ok}
use Rattle.plan_model.specs.Plans.{parts_of}
use Rattle.task_plan.specs.Meant.{inputs_meant}
use Rattle.task_plan.proofs.Faulting.{plan_exit_told}
use Rattle.task_plan.proofs.Stepping.{inputs_refused, parts_made}
use Rattle.task_plan.proofs.parts.parts_made.Goals as goal

pub returns-in_err-inputs-clause-err : goal.returns-in_err-inputs-clause-err
returns-in_err-inputs-clause-err g c =
    let files = g.L.Layers.files c.args.layers.now in
    let file = c.args.file.now in
    let store = c.args.store.now in
    let task = c.args.task.now in
    let fault = c.in_err-inputs.field-0.0 in
    plan_exit_told c.from_residual.result fault (parts_of files file store task c.args.bytes) c.from_residual.ensures.1
    (λ told. inputs_refused files file store task c.args.bytes c.args.made.key fault c.requires.key_is (c.in_err-inputs.ensures.err told))

pub returns-clause-ok : goal.returns-clause-ok
returns-clause-ok g c = λ told.
    let files = g.L.Layers.files c.args.layers.now in
    let file = c.args.file.now in
    let store = c.args.store.now in
    let task = c.args.task.now in
    let key = c.args.made.key in
    let shell = c.args.made.shell in
    parts_made files file store task c.args.bytes key (inputs_meant c.in_ok-inputs.inputs) shell c.requires.key_is (c.in_ok-inputs.ensures.ok told) c.requires.shell_is
    ∙ ap (λ b. Ok (record { key = key; inputs = inputs_meant c.in_ok-inputs.inputs; script = shell.script; places = shell.places; nostamp = shell.nostamp; sstate = b })) (sym c.is_shared-sstate.ensures)
