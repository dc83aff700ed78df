use Rattle.tree_model.specs.Tree.{entry_at}
use Rattle.outside_mem.proofs.Damages.{held_found, ok_changes}
use Rattle.outside_mem.proofs.Trees.{room_where_held}
use Rattle.outside_mem.proofs.leavings.cut_at.Goals as goal

pub put-requires-clause-clean : goal.put-requires-clause-clean
put-requires-clause-clean c = (room_where_held c.args.tree.now c.args.path.now c.entries.ensures.tree (held_found c.get.result _ c.in-Some.entry c.get.ensures c.in-Some.is)).1

pub put-requires-clause-room : goal.put-requires-clause-room
put-requires-clause-room c = (room_where_held c.args.tree.now c.args.path.now c.entries.ensures.tree (held_found c.get.result _ c.in-Some.entry c.get.ensures c.in-Some.is)).0

pub returns-in_ok-half-in-Some-clause-others : goal.returns-in_ok-half-in-Some-clause-others
returns-in_ok-half-in-Some-clause-others c = ok_changes (entry_at c.args.tree.now) (entry_at c.put.new.self) c.args.path.now _ c.put.result c.put.ensures.ok
