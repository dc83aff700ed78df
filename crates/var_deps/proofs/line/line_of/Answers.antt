use Rattle.std.proofs.Common.{[], false, unwrap_or, is_some}
use Rattle.var_deps.specs.Reading.{view_by, line_behind}
use Rattle.var_deps.proofs.Knowing.{told_fault}
use Rattle.var_deps.proofs.line.line_of.Goals as goal

pub returns-in-Err : goal.returns-in-Err
returns-in-Err c = λ led e.
    let view = view_by c.args.seen.now.store.now c.args.seen.now.task [] (unwrap_or c.args.sstate false) c.args.name.now in
    c.refused.ensures.line c.args.name.now (line_behind view (is_some c.args.sstate) c.args.name.now c.args.found led) (told_fault view (is_some c.args.sstate) c.args.name.now c.args.found led c.in-Err.fault c.in-Err.ensures.err)
