use Rattle.tree_model.proofs.LawLemmas.{over_itself}
use Rattle.tree_model.proofs.laws.overlay_with_itself.Goals as goal

pub returns : goal.returns
returns c = over_itself c.args.tree.now c.entries-entries.ensures.tree
