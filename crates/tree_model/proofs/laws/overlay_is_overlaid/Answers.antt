use Rattle.tree_model.proofs.OverlaidLemmas.{is_overlaid}
use Rattle.tree_model.proofs.laws.overlay_is_overlaid.Goals as goal

pub returns : goal.returns
returns c = is_overlaid c.args.earlier.now c.args.later.now c.args.both.now c.entries-earlier.ensures.tree c.entries-later.ensures.tree c.requires
