use Rattle.tree_model.proofs.OverlaidLemmas.{is_picked}
use Rattle.tree_model.proofs.laws.pick_is_picked.Goals as goal

pub returns : goal.returns
returns c = is_picked c.args.folder.now c.args.tree.now c.args.part.now c.entries-entries.ensures.tree c.requires
