use Rattle.store_upgrade.proofs.Ended.{all_ends, below_ends, free_format, free_staged_format, staged_then}
use Rattle.store_upgrade.proofs.ending.write_format.Goals as goal

pub returns-in_err-remove_below-clause-ends : goal.returns-in_err-remove_below-clause-ends
returns-in_err-remove_below-clause-ends g c told = below_ends (g.D.Disk.story c.args.disk.now) (g.D.Disk.story c.remove_below.new.disk) (c.in_err-remove_below.ensures.within told)

pub stage_format-requires-clause-free : goal.stage_format-requires-clause-free
stage_format-requires-clause-free g c told = free_staged_format (g.D.Disk.story c.args.disk.now).held (g.D.Disk.story c.remove_below.new.disk).held (c.in_ok-remove_below.ensures.within told).held (c.requires.laid told)

pub returns-in_err-stage_format-clause-ends : goal.returns-in_err-stage_format-clause-ends
returns-in_err-stage_format-clause-ends g c told = staged_then (g.D.Disk.story c.args.disk.now) (g.D.Disk.story c.remove_below.new.disk) (g.D.Disk.story c.stage_format.new.disk) (c.in_ok-remove_below.ensures.within told) (c.in_err-stage_format.ensures.changes told)

pub put_format-requires-clause-free : goal.put_format-requires-clause-free
put_format-requires-clause-free g c told = free_format (g.D.Disk.story c.remove_below.new.disk).held (g.D.Disk.story c.stage_format.new.disk).held (c.in_ok-remove_below.ensures.gone told) (c.in_ok-stage_format.ensures.changes told).held

pub returns-clause-ends : goal.returns-clause-ends
returns-clause-ends g c told = all_ends (g.D.Disk.story c.args.disk.now) (g.D.Disk.story c.remove_below.new.disk) (g.D.Disk.story c.stage_format.new.disk) (g.D.Disk.story c.put_format.new.disk) (c.in_ok-remove_below.ensures.within told) (c.in_ok-stage_format.ensures.changes told) (c.put_format.ensures.moves told)
