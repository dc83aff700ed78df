use Rattle.std.proofs.lemmas.Result.{err_from_is_err_and}
use Rattle.meta_model.specs.GraphRefusal.{target_task}
use Rattle.task_graph.specs.Context.{IsNumberOf}
use Rattle.task_graph.proofs.Reaching.{target_refused, zip_more}
use Rattle.task_graph.proofs.reach.numbers_of.Goals as goal

pub returns-in_err-number-clause-err : goal.returns-in_err-number-clause-err
returns-in_err-number-clause-err c =
    let p = err_from_is_err_and c.from_residual-in_err-number.result c.from_residual-in_err-number.ensures.1 in
    let h = rw (c.as_str.ensures, c.as_str-in-loop-target.ensures) at c.in_err-number.ensures.err in
    rw (p.1, p.2) (target_refused c.args.facts.now c.args.targets.now c.loop-target.target-index c.target-item.result c.loop-target-test.true c.target-item.is c.in_err-number.field-0.0 h)

pub loop-target-preserved : goal.loop-target-preserved
loop-target-preserved c =
    let here = rw (c.as_str.ensures, c.as_str-in-loop-target.ensures) at c.in_ok-number.ensures.ok in
    rw c.in_ok-push.ensures.items (zip_more (λ target u. IsNumberOf c.args.context.now.table (target_task c.args.facts.now target) u) c.args.targets.now c.loop-target.numbers.items c.loop-target.target-index c.target-item.result c.in_ok-number.number c.loop-target-test.true c.target-item.is c.loop-target.invariant here)
