use Rattle.std.proofs.Common.{None}
use Rattle.tree_model.specs.Tree.{entry_at}
use Rattle.outside_mem.proofs.Damages.{changes_by, none_at, none_left}
use Rattle.outside_mem.proofs.leavings.damage_at.Goals as goal

pub returns-in-Gone-clause-others : goal.returns-in-Gone-clause-others
returns-in-Gone-clause-others c = changes_by (entry_at c.args.tree.now) (entry_at c.take.new.self) c.args.path.now None c.take.ensures.rest

pub returns-in-Gone-clause-no_more : goal.returns-in-Gone-clause-no_more
returns-in-Gone-clause-no_more c = none_left (entry_at c.args.tree.now) (entry_at c.take.new.self) c.args.path.now c.take.ensures.rest

pub returns-in-Gone-clause-gone : goal.returns-in-Gone-clause-gone
returns-in-Gone-clause-gone c is = none_at (entry_at c.args.tree.now) (entry_at c.take.new.self) c.args.path.now c.take.ensures.rest
