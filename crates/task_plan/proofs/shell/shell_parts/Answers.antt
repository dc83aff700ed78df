use Rattle.task_plan.specs.Steps.{shell_of}
use Rattle.task_plan.proofs.Faulting.{plan_exit}
use Rattle.task_plan.proofs.Stepping.{shell_made, places_refused, nostamp_refused}
use Rattle.task_plan.specs.Faults.{IsPlanFault}
use Rattle.std.proofs.Common.{subst, ap, sym, ◌∙◌}
use Rattle.task_plan.specs.Steps.{places_told, nostamp_told}
use Rattle.task_plan.proofs.shell.shell_parts.Goals as goal

pub returns-in_err-places-clause-err : goal.returns-in_err-places-clause-err
returns-in_err-places-clause-err c =
    let fault = c.in_err-places.field-0.0 in
    let file = c.args.file.now in
    let task = c.args.task.now in
    plan_exit c.from_residual-in_err-places.result fault (shell_of file c.args.keys.now task) c.from_residual-in_err-places.ensures.1
    (places_refused file c.args.keys.now task c.in_ok-script.script fault c.in_ok-script.ensures.ok (subst (λ s. IsPlanFault fault (places_told file s task)) c.store.ensures c.in_err-places.ensures.err))

pub returns-in_err-nostamp-clause-err : goal.returns-in_err-nostamp-clause-err
returns-in_err-nostamp-clause-err c =
    let fault = c.in_err-nostamp.field-0.0 in
    let file = c.args.file.now in
    let task = c.args.task.now in
    plan_exit c.from_residual-in_err-nostamp.result fault (shell_of file c.args.keys.now task) c.from_residual-in_err-nostamp.ensures.1
    (nostamp_refused file c.args.keys.now task c.in_ok-script.script c.in_ok-places.places fault c.in_ok-script.ensures.ok (ap (λ s. places_told file s task) (sym c.store.ensures) ∙ c.in_ok-places.ensures.ok) (subst (λ s. IsPlanFault fault (nostamp_told file s task)) c.store-2.ensures c.in_err-nostamp.ensures.err))

pub returns-clause-ok : goal.returns-clause-ok
returns-clause-ok c =
    let file = c.args.file.now in
    let task = c.args.task.now in
    shell_made file c.args.keys.now task c.in_ok-script.script c.in_ok-places.places c.in_ok-nostamp.nostamp c.in_ok-script.ensures.ok
    (ap (λ s. places_told file s task) (sym c.store.ensures) ∙ c.in_ok-places.ensures.ok) (ap (λ s. nostamp_told file s task) (sym c.store-2.ensures) ∙ c.in_ok-nostamp.ensures.ok)
