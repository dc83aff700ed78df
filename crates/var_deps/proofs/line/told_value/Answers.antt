use Rattle.std.proofs.Common.{◌≡◌, sym, subst, [], false, IfOk, Ok}
use Rattle.meta_model.specs.Forms.{asked_by}
use Rattle.meta_model.proofs.Passing.{goes_on}
use Rattle.task_model.specs.Keys.{asked_value, line_value}
use Rattle.var_deps.specs.Reading.{view_by}
use Rattle.var_deps.proofs.line.told_value.Goals as goal

pub returns-clause-ok : goal.returns-clause-ok
returns-clause-ok c =
    let view = view_by c.args.seen.now.store.now c.args.seen.now.task [] false [] in
    let name = c.args.name.now in
    subst (λ m. IfOk c.asked_value.result (λ made. m ≡ Ok made)) (sym (goes_on (line_value view name c.args.found) c.in_ok-value.value (asked_value view (asked_by name)) c.in_ok-value.ensures.ok)) c.asked_value.ensures.ok
