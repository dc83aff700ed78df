use Rattle.tree_model.proofs.TreeLemmas.{any_stands, none_gap}
use Rattle.tree_model.proofs.order.holds_path.Goals as goal

pub returns-in-Ok : goal.returns-in-Ok
returns-in-Ok c = any_stands c.args.entries.now c.args.path.now c.in-Ok.field-0 c.in-Ok.ensures

pub returns-in-Err : goal.returns-in-Err
returns-in-Err c = none_gap c.args.entries.now c.args.path.now c.in-Err.field-0 c.in-Err.ensures
