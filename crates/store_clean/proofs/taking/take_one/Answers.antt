use Rattle.std.proofs.Common.{subst}
use Rattle.outside_traits.specs.Passes.{Passes}
use Rattle.outside_traits.specs.Store.{Moves, Store}
use Rattle.outside_traits.proofs.Calls.{Moves-same, renames_passes, same_then}
use Rattle.store_clean.specs.Cleared.{gone_path}
use Rattle.store_clean.proofs.taking.take_one.Goals as goal

pub returns-then-branch-clause-moves : goal.returns-then-branch-clause-moves
returns-then-branch-clause-moves g c told =
    let run = renames_passes (g.met.D.Disk.sound c.is_held.new.disk told) (c.rename.ensures.told told) in
    let moved = subst (λ (h : Store). Passes (g.D.Disk.story c.is_held.new.disk) (g.D.Disk.story c.rename.new.self) (Moves c.args.path.now gone_path (h c.args.path.now))) (c.is_held.ensures.others told).held run in
    same_then (Moves-same c.args.path.now gone_path ((g.D.Disk.story c.args.disk.now).held c.args.path.now)) (c.is_held.ensures.others told) moved
