use Rattle.std.proofs.Common.{◌≡◌, subst, Ok, IfOk, IfErr, slice_index_or, []}
use Rattle.std.specs.Ordering.{nat_cmp}
use Rattle.std.specs.BTreeMap.{get}
use Rattle.plan_model.specs.Plans.{file_at, parts_of, planned, planned_with}
use Rattle.task_plan.specs.Faults.{IsPlanFault}
use Rattle.task_plan.specs.Meant.{sums_meant}
use Rattle.task_plan.specs.Steps.{IsFaultOfKeys}
use Rattle.task_plan.proofs.Faulting.{plan_on}
use Rattle.std.proofs.lemmas.Result.{on_ok_weaker}
use Rattle.task_plan.proofs.Keeping.{one_more_kept}
use Rattle.task_plan.proofs.Stepping.{key_refused}
use Rattle.task_plan.proofs.planned.planned_anew.Goals as goal

pub returns-in-Ok-clause-kept : goal.returns-in-Ok-clause-kept
returns-in-Ok-clause-kept g c = on_ok_weaker c.planned_with.result (λ made. one_more_kept c.args.set.now.stores (get nat_cmp c.keys_of.new.kept) (get nat_cmp c.planned_with.new.kept) c.args.node.now.recipe c.in-Ok.keys made c.in-Ok.ensures.kept c.in-Ok.ensures.ok) c.planned_with.ensures.kept

pub returns-in-Ok-clause-ok : goal.returns-in-Ok-clause-ok
returns-in-Ok-clause-ok g c =
    let files = g.L.Layers.files c.args.layers.now in
    let facts = c.args.set.now.facts in
    let node = c.args.node.now in
    let sums = sums_meant c.args.sums.now in
    subst (λ store. IfOk c.planned_with.result (λ task. g.L.Layers.tells → planned files (file_at facts node.recipe) store node sums ≡ Ok (record { task = task; sums = sums_meant c.planned_with.new.sums }))) c.in-Ok.ensures.ok
    (subst (λ file. IfOk c.planned_with.result (λ task. g.L.Layers.tells → planned files file c.in-Ok.keys node sums ≡ Ok (record { task = task; sums = sums_meant c.planned_with.new.sums }))) c.file_of-file.ensures c.planned_with.ensures.ok)

pub returns-in-Ok-clause-err : goal.returns-in-Ok-clause-err
returns-in-Ok-clause-err g c =
    let files = g.L.Layers.files c.args.layers.now in
    let facts = c.args.set.now.facts in
    let node = c.args.node.now in
    let sums = sums_meant c.args.sums.now in
    subst (λ store. IfErr c.planned_with.result (λ fault. g.L.Layers.tells → IsPlanFault fault (planned files (file_at facts node.recipe) store node sums))) c.in-Ok.ensures.ok
    (subst (λ file. IfErr c.planned_with.result (λ fault. g.L.Layers.tells → IsPlanFault fault (planned files file c.in-Ok.keys node sums))) c.file_of-file.ensures c.planned_with.ensures.err)

pub returns-in-Err-clause-err : goal.returns-in-Err-clause-err
returns-in-Err-clause-err g c = λ told.
    let files = g.L.Layers.files c.args.layers.now in
    let node = c.args.node.now in
    let sums = sums_meant c.args.sums.now in
    let store = slice_index_or c.args.set.now.stores node.recipe [] in
    let fault = c.in-Err.fault in
    let file = file_at c.args.set.now.facts node.recipe in
    let refused : IsFaultOfKeys fault file store = subst (λ f. IsFaultOfKeys fault f store) c.file_of-file.ensures c.in-Err.ensures.err in
    plan_on fault (parts_of files file store node.id.task sums.inputs) (planned_with node sums) (key_refused files file store node.id.task sums.inputs fault (refused.told node.id.task))
