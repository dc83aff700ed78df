use Rattle.outside_traits.proofs.Folders.{lays_apart, lays_round, lays_then, lays_way}
use Rattle.outside_traits.proofs.trees.put_tree.Goals as goal

pub returns-in_err-clear_above-clause-lays : goal.returns-in_err-clear_above-clause-lays
returns-in_err-clear_above-clause-lays g c told = lays_way c.args.folder.now c.args.tree.now (c.clear_above.ensures.way told)

pub returns-in_err-clear_above-clause-round : goal.returns-in_err-clear_above-clause-round
returns-in_err-clear_above-clause-round g c told = lays_round c.args.folder.now c.args.tree.now (lays_way c.args.folder.now c.args.tree.now (c.clear_above.ensures.way told))

pub returns-in_err-clear_above-clause-others : goal.returns-in_err-clear_above-clause-others
returns-in_err-clear_above-clause-others g c told = lays_apart c.args.folder.now c.args.tree.now (lays_way c.args.folder.now c.args.tree.now (c.clear_above.ensures.way told))

pub returns-in_err-listed-clause-lays : goal.returns-in_err-listed-clause-lays
returns-in_err-listed-clause-lays g c told = lays_then c.args.folder.now c.args.tree.now (lays_way c.args.folder.now c.args.tree.now (c.clear_above.ensures.way told)) (c.clear_others.ensures.lays told)

pub returns-in_err-listed-clause-round : goal.returns-in_err-listed-clause-round
returns-in_err-listed-clause-round g c told = lays_round c.args.folder.now c.args.tree.now (lays_then c.args.folder.now c.args.tree.now (lays_way c.args.folder.now c.args.tree.now (c.clear_above.ensures.way told)) (c.clear_others.ensures.lays told))

pub returns-in_err-listed-clause-others : goal.returns-in_err-listed-clause-others
returns-in_err-listed-clause-others g c told = lays_apart c.args.folder.now c.args.tree.now (lays_then c.args.folder.now c.args.tree.now (lays_way c.args.folder.now c.args.tree.now (c.clear_above.ensures.way told)) (c.clear_others.ensures.lays told))

pub returns-clause-lays : goal.returns-clause-lays
returns-clause-lays g c told = lays_then c.args.folder.now c.args.tree.now (lays_then c.args.folder.now c.args.tree.now (lays_way c.args.folder.now c.args.tree.now (c.clear_above.ensures.way told)) (c.clear_others.ensures.lays told)) (rw c.entries.ensures.value at (c.fill.ensures.lays told))

pub returns-clause-round : goal.returns-clause-round
returns-clause-round g c told = lays_round c.args.folder.now c.args.tree.now (lays_then c.args.folder.now c.args.tree.now (lays_then c.args.folder.now c.args.tree.now (lays_way c.args.folder.now c.args.tree.now (c.clear_above.ensures.way told)) (c.clear_others.ensures.lays told)) (rw c.entries.ensures.value at (c.fill.ensures.lays told)))

pub returns-clause-others : goal.returns-clause-others
returns-clause-others g c told = lays_apart c.args.folder.now c.args.tree.now (lays_then c.args.folder.now c.args.tree.now (lays_then c.args.folder.now c.args.tree.now (lays_way c.args.folder.now c.args.tree.now (c.clear_above.ensures.way told)) (c.clear_others.ensures.lays told)) (rw c.entries.ensures.value at (c.fill.ensures.lays told)))
