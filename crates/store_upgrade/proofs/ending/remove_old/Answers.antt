use Rattle.std.specs.Prelude.{codes}
use Rattle.store_upgrade.proofs.Ended.{below_then_at, below_within}
use Rattle.store_upgrade.proofs.ending.remove_old.Goals as goal

pub returns-in_err-remove_below-clause-within : goal.returns-in_err-remove_below-clause-within
returns-in_err-remove_below-clause-within g c told = below_within (codes "rec") (g.D.Disk.story c.args.disk.now) (g.D.Disk.story c.remove_below.new.disk) (c.in_err-remove_below.ensures.within told)

pub returns-clause-within : goal.returns-clause-within
returns-clause-within g c told = below_then_at (codes "rec") (g.D.Disk.story c.args.disk.now) (g.D.Disk.story c.remove_below.new.disk) (g.D.Disk.story c.clear_at.new.disk) (c.in_ok-remove_below.ensures.within told) (c.clear_at.ensures.changes told)
