use Rattle.outside_traits.proofs.Calls.{ChangesAt-same, removes_passes, same_then}
use Rattle.store_upgrade.proofs.calls.clear_at.Goals as goal

pub returns-then-branch-clause-changes : goal.returns-then-branch-clause-changes
returns-then-branch-clause-changes g c told = same_then (ChangesAt-same c.args.path.now) (c.is_held.ensures.others told) (removes_passes (c.remove.ensures.told told))
