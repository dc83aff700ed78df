use Rattle.std.proofs.Common.{◌≡◌, sym, subst, List, map}
use Rattle.outside_traits.specs.Bench.{Gives}
use Rattle.outside_traits.specs.Story.{Story, moment}
use Rattle.run_model.specs.Runs.{Runs}
use Rattle.sub_disk.specs.Sub.{sub_story}
use Rattle.build_resume.specs.Build.{IsEntry}
use Rattle.config_build.proofs.Ways.{all_unmapped, disk_failed_so, faults_none, leaves_story, went_on, wider_disk}
use Rattle.config_build.proofs.below.build_below.Goals as goal

pub returns-clause-folder : goal.returns-clause-folder
returns-clause-folder g c told =
    let ran = c.build-plan in
    let runs : List Runs = map (λ x. (g.B.Bench.place x).runs) c.args.benches.items in
    let runs_now : List Runs = map (λ x. (g.B.Bench.place x).runs) ran.result.benches.items in
    went_on g.K.Start.prefix g.K.Start.start (g.D.Disk.story c.into_disk.result) _ _ (c.into_disk.ensures.goes_on told)
    (leaves_story g.D.Disk.tells g.B.Bench.tells g.B.Bench.gives c.args.benches.items c.args.plan c.args.options ran.result.tale.items ran.result.status _ (sub_story g.K.Start.prefix (moment g.K.Start.start) 0 g.K.Start.start) _ runs runs_now (c.over-own.ensures.fresh told) (ran.ensures.leaves told) ran.ensures.differs)

pub returns-clause-exactly : goal.returns-clause-exactly
returns-clause-exactly g c told b gives all reading book entry wanted disk bench sink memory apart =
    c.build-plan.ensures.exactly told b gives (all_unmapped (λ (x : Gives). x ≡ gives) g.B.Bench.gives c.args.benches.items all) reading book
    (subst (λ (s : Story). IsEntry gives reading book s.held c.args.plan) (sym (c.over-own.ensures.fresh told)) entry) wanted (faults_none _ _ _ c.into_disk.ensures.faults disk) bench sink memory apart

pub returns-clause-disk_cause : goal.returns-clause-disk_cause
returns-clause-disk_cause g c e = disk_failed_so _ _ _ _ _ c.build-plan.result.status c.into_disk.ensures.faults c.build-plan.ensures.ends e

pub returns-clause-ends : goal.returns-clause-ends
returns-clause-ends g c = wider_disk _ _ _ _ _ c.build-plan.result.status c.into_disk.ensures.faults c.build-plan.ensures.ends
