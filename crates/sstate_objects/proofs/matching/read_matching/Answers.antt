use Rattle.std.proofs.Common.{◌∙◌, ap}
use Rattle.sstate_objects.specs.Matching.{size_told}
use Rattle.sstate_objects.proofs.Sizing.{free_at, matching_told, matches_nothing}
use Rattle.sstate_objects.proofs.matching.read_matching.Goals as goal

pub returns-in-Some-clause-found : goal.returns-in-Some-clause-found
returns-in-Some-clause-found g c told =
    let free = free_at _ _ _ (c.in_ok-is_open.ensures.found told) c.if-not-branch.false in
    matching_told c.args.folder.now c.args.manifest.now _ _ _ c.in-Some.tree c.matching.result (c.in_ok-is_open.ensures.others told).held free c.matching.ensures.tree (rw c.in-Some.is at (c.in_ok-tree.ensures.found told)) c.matching.ensures.some c.matching.ensures.none

pub returns-in-None-clause-found : goal.returns-in-None-clause-found
returns-in-None-clause-found g c told =
    matches_nothing c.args.folder.now c.args.manifest.now _ _ _ (c.in_ok-is_open.ensures.others told).held (c.size_told-max.ensures ∙ ap size_told c.lines.ensures) (rw c.in-None.is at (c.in_ok-tree.ensures.found told))
