use Rattle.std.proofs.Common.{◌≡◌, sym, subst, Ok, IfOk, IfErr, IfSome, slice_index_or, []}
use Rattle.plan_model.specs.Plans.{file_at, planned}
use Rattle.task_plan.specs.Ahead.{IsMade, IsMadeOf}
use Rattle.task_plan.specs.Faults.{IsPlanFault}
use Rattle.task_plan.specs.Meant.{sums_meant}
use Rattle.task_plan.proofs.planned.planned_node.Goals as goal

pub planned_made-requires : goal.planned_made-requires
planned_made-requires g c =
    let set = c.args.set.now in
    let node = c.args.node.now in
    let made = c.in-Some.made in
    let is : IsMadeOf set node made = subst (λ o. IfSome o (IsMadeOf set node)) c.in-Some.is c.requires.made in
    subst (λ file. IsMade file c.store_of.result.now node.id.task made) (sym c.file_of-file.ensures)
    (subst (λ store. IsMade (file_at set.facts node.recipe) store node.id.task made) (sym c.store_of.ensures) is)

pub returns-in-Some-clause-ok : goal.returns-in-Some-clause-ok
returns-in-Some-clause-ok g c =
    let files = g.L.Layers.files c.args.layers.now in
    let facts = c.args.set.now.facts in
    let node = c.args.node.now in
    let sums = sums_meant c.args.sums.now in
    subst (λ store. IfOk c.planned_made.result (λ task. g.L.Layers.tells → planned files (file_at facts node.recipe) store node sums ≡ Ok (record { task = task; sums = sums_meant c.planned_made.new.sums }))) c.store_of.ensures
    (subst (λ file. IfOk c.planned_made.result (λ task. g.L.Layers.tells → planned files file c.store_of.result.now node sums ≡ Ok (record { task = task; sums = sums_meant c.planned_made.new.sums }))) c.file_of-file.ensures c.planned_made.ensures.ok)

pub returns-in-Some-clause-err : goal.returns-in-Some-clause-err
returns-in-Some-clause-err g c =
    let files = g.L.Layers.files c.args.layers.now in
    let facts = c.args.set.now.facts in
    let node = c.args.node.now in
    let sums = sums_meant c.args.sums.now in
    subst (λ store. IfErr c.planned_made.result (λ fault. g.L.Layers.tells → IsPlanFault fault (planned files (file_at facts node.recipe) store node sums))) c.store_of.ensures
    (subst (λ file. IfErr c.planned_made.result (λ fault. g.L.Layers.tells → IsPlanFault fault (planned files file c.store_of.result.now node sums))) c.file_of-file.ensures c.planned_made.ensures.err)
