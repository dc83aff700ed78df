use Rattle.std.proofs.Common.{◌∙◌}
use Rattle.std.specs.Prelude.{option_copied}
use Rattle.plan_clean.proofs.Joined.{cleared_along, cleared_if, opened_along}
use Rattle.plan_clean.proofs.clearing.clean_disk.Goals as goal

pub returns-in_err-roots-clause-moments : goal.returns-in_err-roots-clause-moments
returns-in_err-roots-clause-moments g c told = opened_along (option_copied c.args.plan) c.args.limit (g.D.Disk.story c.args.disk.now) (g.D.Disk.story c.open_disk.new.disk) (c.open_disk.ensures.images told)

pub returns-clause-moments : goal.returns-clause-moments
returns-clause-moments g c told =
    cleared_along (option_copied c.args.plan) c.args.limit (g.D.Disk.story c.args.disk.now) (g.D.Disk.story c.open_disk.new.disk) (g.D.Disk.story c.clean_store.new.disk) c.in_ok-index.index c.deref.result.now (c.deref.ensures.value ∙ c.in_ok-roots.ensures) (c.in_ok-index.ensures.opened told)
    (c.open_disk.ensures.images told) (c.clean_store.ensures.images told)

pub returns-clause-cleared : goal.returns-clause-cleared
returns-clause-cleared g c told =
    cleared_if (option_copied c.args.plan) c.args.limit (g.D.Disk.story c.args.disk.now) (g.D.Disk.story c.open_disk.new.disk) (g.D.Disk.story c.clean_store.new.disk) c.in_ok-index.index c.deref.result.now c.clean_store.result (c.deref.ensures.value ∙ c.in_ok-roots.ensures) (c.in_ok-index.ensures.opened told)
    (c.clean_store.ensures.done told)
