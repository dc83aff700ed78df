use Rattle.tree_model.proofs.LawLemmas.{one_overlay}
use Rattle.tree_model.proofs.laws.overlay_is_one_tree.Goals as goal

pub returns : goal.returns
returns c = one_overlay c.args.earlier.now c.args.later.now c.args.one.now c.args.other.now c.entries-later.ensures.tree c.requires.one c.requires.other
