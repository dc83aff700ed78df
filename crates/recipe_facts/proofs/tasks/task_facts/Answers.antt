use Rattle.std.proofs.Common.{◌∙◌, ap, sym, subst, Ok, codes}
use Rattle.datastore.specs.Faults.{IsDataFault}
use Rattle.datastore.proofs.Freezing.{fault_on}
use Rattle.recipe_facts.proofs.Binding.{exit, fault_later, want}
use Rattle.meta_model.proofs.Passing.{goes_on}
use Rattle.load_model.specs.Facts.{flag_words, task_facts}
use Rattle.recipe_facts.proofs.Chains.{Asked, task1, task2, task3, task4}
use Rattle.recipe_facts.proofs.tasks.task_facts.Goals as goal

pub returns-in_err-depends-clause-err : goal.returns-in_err-depends-clause-err
returns-in_err-depends-clause-err c =
    let lines = c.args.store.now in
    let task : Asked = (c.args.task.now, c.args.after.now) in
    let fault = c.in_err-depends.field-0.0 in
    exit c.from_residual.result fault (task_facts lines task) c.from_residual.ensures.1
    (fault_on fault (flag_words lines task.0 (codes "depends")) (task1 lines task) (subst (λ t. IsDataFault fault (flag_words lines t (codes "depends"))) c.as_str-name.ensures c.in_err-depends.ensures.err))

pub returns-in_err-deptask-clause-err : goal.returns-in_err-deptask-clause-err
returns-in_err-deptask-clause-err c =
    let lines = c.args.store.now in
    let task : Asked = (c.args.task.now, c.args.after.now) in
    let fault = c.in_err-deptask.field-0.0 in
    exit c.from_residual-in_err-deptask.result fault (task_facts lines task) c.from_residual-in_err-deptask.ensures.1
    (fault_later fault (flag_words lines task.0 (codes "depends")) (c.in_ok-depends.depends) (task1 lines task) (ap (λ t. flag_words lines t (codes "depends")) (sym c.as_str-name.ensures) ∙ c.in_ok-depends.ensures.ok)
    (fault_on fault (flag_words lines task.0 (codes "deptask")) (task2 lines task c.in_ok-depends.depends) (subst (λ t. IsDataFault fault (flag_words lines t (codes "deptask"))) c.as_str-name.ensures c.in_err-deptask.ensures.err)))

pub returns-in_err-rdeptask-clause-err : goal.returns-in_err-rdeptask-clause-err
returns-in_err-rdeptask-clause-err c =
    let lines = c.args.store.now in
    let task : Asked = (c.args.task.now, c.args.after.now) in
    let fault = c.in_err-rdeptask.field-0.0 in
    exit c.from_residual-in_err-rdeptask.result fault (task_facts lines task) c.from_residual-in_err-rdeptask.ensures.1
    (fault_later fault (flag_words lines task.0 (codes "depends")) (c.in_ok-depends.depends) (task1 lines task) (ap (λ t. flag_words lines t (codes "depends")) (sym c.as_str-name.ensures) ∙ c.in_ok-depends.ensures.ok)
    (fault_later fault (flag_words lines task.0 (codes "deptask")) (c.in_ok-deptask.deptask) (task2 lines task c.in_ok-depends.depends) (ap (λ t. flag_words lines t (codes "deptask")) (sym c.as_str-name.ensures) ∙ c.in_ok-deptask.ensures.ok)
    (fault_on fault (flag_words lines task.0 (codes "rdeptask")) (task3 lines task c.in_ok-depends.depends c.in_ok-deptask.deptask) (subst (λ t. IsDataFault fault (flag_words lines t (codes "rdeptask"))) c.as_str-name.ensures c.in_err-rdeptask.ensures.err))))

pub returns-in_err-recrdeptask-clause-err : goal.returns-in_err-recrdeptask-clause-err
returns-in_err-recrdeptask-clause-err c =
    let lines = c.args.store.now in
    let task : Asked = (c.args.task.now, c.args.after.now) in
    let fault = c.in_err-recrdeptask.field-0.0 in
    exit c.from_residual-in_err-recrdeptask.result fault (task_facts lines task) c.from_residual-in_err-recrdeptask.ensures.1
    (fault_later fault (flag_words lines task.0 (codes "depends")) (c.in_ok-depends.depends) (task1 lines task) (ap (λ t. flag_words lines t (codes "depends")) (sym c.as_str-name.ensures) ∙ c.in_ok-depends.ensures.ok)
    (fault_later fault (flag_words lines task.0 (codes "deptask")) (c.in_ok-deptask.deptask) (task2 lines task c.in_ok-depends.depends) (ap (λ t. flag_words lines t (codes "deptask")) (sym c.as_str-name.ensures) ∙ c.in_ok-deptask.ensures.ok)
    (fault_later fault (flag_words lines task.0 (codes "rdeptask")) (c.in_ok-rdeptask.rdeptask) (task3 lines task c.in_ok-depends.depends c.in_ok-deptask.deptask) (ap (λ t. flag_words lines t (codes "rdeptask")) (sym c.as_str-name.ensures) ∙ c.in_ok-rdeptask.ensures.ok)
    (fault_on fault (flag_words lines task.0 (codes "recrdeptask")) (task4 task c.in_ok-depends.depends c.in_ok-deptask.deptask c.in_ok-rdeptask.rdeptask) (subst (λ t. IsDataFault fault (flag_words lines t (codes "recrdeptask"))) c.as_str-name.ensures c.in_err-recrdeptask.ensures.err)))))

pub returns-in_err-task_made-clause-err : goal.returns-in_err-task_made-clause-err
returns-in_err-task_made-clause-err c = want c.from_residual-in_err-task_made.result (task_facts c.args.store.now (c.args.task.now, c.args.after.now)) c.from_residual-in_err-task_made.ensures.1

pub returns-clause-ok : goal.returns-clause-ok
returns-clause-ok c =
    let lines = c.args.store.now in
    let task : Asked = (c.args.task.now, c.args.after.now) in
    goes_on (flag_words lines task.0 (codes "depends")) (c.in_ok-depends.depends) (task1 lines task) (ap (λ t. flag_words lines t (codes "depends")) (sym c.as_str-name.ensures) ∙ c.in_ok-depends.ensures.ok)
    ∙ goes_on (flag_words lines task.0 (codes "deptask")) (c.in_ok-deptask.deptask) (task2 lines task c.in_ok-depends.depends) (ap (λ t. flag_words lines t (codes "deptask")) (sym c.as_str-name.ensures) ∙ c.in_ok-deptask.ensures.ok)
    ∙ goes_on (flag_words lines task.0 (codes "rdeptask")) (c.in_ok-rdeptask.rdeptask) (task3 lines task c.in_ok-depends.depends c.in_ok-deptask.deptask) (ap (λ t. flag_words lines t (codes "rdeptask")) (sym c.as_str-name.ensures) ∙ c.in_ok-rdeptask.ensures.ok)
    ∙ goes_on (flag_words lines task.0 (codes "recrdeptask")) (c.in_ok-recrdeptask.recrdeptask) (task4 task c.in_ok-depends.depends c.in_ok-deptask.deptask c.in_ok-rdeptask.rdeptask) (ap (λ t. flag_words lines t (codes "recrdeptask")) (sym c.as_str-name.ensures) ∙ c.in_ok-recrdeptask.ensures.ok)
    ∙ ap (λ made. task4 task made c.in_ok-deptask.deptask c.in_ok-rdeptask.rdeptask c.in_ok-recrdeptask.recrdeptask) (sym c.as_slice.ensures) ∙ ap Ok (sym c.in_ok-task_made.ensures)
