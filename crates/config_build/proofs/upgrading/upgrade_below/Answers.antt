use Rattle.std.proofs.Common.{ap}
use Rattle.outside_traits.specs.Story.{Story}
use Rattle.config_build.proofs.Ways.{along_below, counts_so, upgraded_below, went_on}
use Rattle.config_build.proofs.upgrading.upgrade_below.Goals as goal

pub returns-clause-upgraded : goal.returns-clause-upgraded
returns-clause-upgraded g c told =
    upgraded_below c.upgrade-done.result _ _ _ _ (ap (λ (s : Story). s.held) (c.over-own.ensures.fresh told)) (c.into_disk.ensures.goes_on told).held_below (c.upgrade-done.ensures.upgraded told)

pub returns-clause-folder : goal.returns-clause-folder
returns-clause-folder g c told =
    went_on g.K.Start.prefix g.K.Start.start (g.D.Disk.story c.into_disk.result) _ _ (c.into_disk.ensures.goes_on told)
    (along_below _ _ _ (c.over-own.ensures.fresh told) (c.upgrade-done.ensures.images told))

pub returns-clause-cause : goal.returns-clause-cause
returns-clause-cause g c = counts_so _ _ _ _ _ c.over-own.ensures.faults c.upgrade-done.ensures.cause c.into_disk.ensures.faults
