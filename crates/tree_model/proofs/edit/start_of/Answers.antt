use Rattle.tree_model.proofs.EditLemmas.{start_found, start_gap}
use Rattle.tree_model.proofs.edit.start_of.Goals as goal

pub returns-in-Ok : goal.returns-in-Ok
returns-in-Ok c = start_found c.args.entries.now c.args.prefix.now c.in-Ok.place c.requires c.in-Ok.ensures

pub returns-in-Err : goal.returns-in-Err
returns-in-Err c = start_gap c.args.entries.now c.args.prefix.now c.in-Err.place c.in-Err.ensures
