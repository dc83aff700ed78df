use Rattle.sstate_objects.proofs.Sizing.{free_at, holds_told, holds_nothing}
use Rattle.sstate_objects.proofs.holding.holds_tree.Goals as goal

pub returns-in-Some-clause-found : goal.returns-in-Some-clause-found
returns-in-Some-clause-found g c told =
    let free = free_at _ _ _ (c.in_ok-is_open.ensures.found told) c.if-not-branch.false in
    holds_told c.same_tree.result c.args.folder.now _ _ _ c.in-Some.found c.args.tree.now (c.in_ok-is_open.ensures.others told).held free c.size_of.ensures.tree (rw c.in-Some.is at (c.in_ok-found.ensures.found told)) c.same_tree.ensures

pub returns-in-None-clause-found : goal.returns-in-None-clause-found
returns-in-None-clause-found g c told =
    holds_nothing c.args.folder.now _ _ _ c.args.tree.now (c.in_ok-is_open.ensures.others told).held c.size_of.ensures.size c.size_of.ensures.tree (rw c.in-None.is at (c.in_ok-found.ensures.found told))
