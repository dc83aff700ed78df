use Rattle.tree_model.proofs.OverlaidLemmas.{is_overlaid}
use Rattle.std.proofs.lemmas.Result.{on_ok_weaker}
use Rattle.task_plan.proofs.inputs.lay_over.Goals as goal

pub returns : goal.returns
returns c = on_ok_weaker c.overlay.result (is_overlaid c.args.tree.now c.args.later.now c.overlay.new.self c.entries-earlier.ensures.tree c.entries-later.ensures.tree) c.overlay.ensures.ok
