use Rattle.tree_model.proofs.LawLemmas.{picked_back}
use Rattle.tree_model.proofs.laws.pick_after_place.Goals as goal

pub returns : goal.returns
returns c = picked_back c.args.folder.now c.args.tree.now c.args.put.now c.args.picked.now c.entries-entries.ensures.tree c.requires.put c.requires.picked
