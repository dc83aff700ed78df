use Rattle.std.proofs.Common.{◌≡◌, ◌≤◌, ◌<◌, ap, sym, subst, arith, ℕ, List, length, map}
use Rattle.outside_traits.specs.Fault.{Rose}
use Rattle.outside_traits.specs.Store.{Store}
use Rattle.build_resume.specs.Build.{IsEntry}
use Rattle.run_model.specs.Runs.{Runs}
use Rattle.sub_disk.specs.Sub.{IsPrefix}
use Rattle.multi_config.proofs.Folders.{prefix_is, prefix_short}
use Rattle.config_build.proofs.Ways.{did_folder, failed_rose, ready_holds}
use Rattle.config_build.proofs.config.build_config.Goals as goal

pub build_in-requires-clause-place : goal.build_in-requires-clause-place
build_in-requires-clause-place g c κs within = subst IsPrefix (sym c.in-Ok.ensures.prefix) (prefix_is c.args.mc.now c.requires.name)

pub build_in-requires-clause-short : goal.build_in-requires-clause-short
build_in-requires-clause-short g c κs within = let e = ap length c.in-Ok.ensures.prefix in let short = prefix_short c.args.mc.now c.requires.name in omega (arith, e, short)

pub returns-in-Ok-clause-folder : goal.returns-in-Ok-clause-folder
returns-in-Ok-clause-folder g c told =
    let before = g.D.Disk.story c.args.disk in
    let start = g.D.Disk.story c.prefix_ready.new.disk in
    let now = g.D.Disk.story c.build_in.result.disk in
    let way = c.in-Ok.ensures.way told in
    let tale = c.build_in.result.tale.items in
    let status = c.build_in.result.status in
    let runs : List Runs = map (λ b. (g.B.Bench.place b).runs) c.args.benches.items in
    let runs_now : List Runs = map (λ b. (g.B.Bench.place b).runs) c.build_in.result.benches.items in
    let gives = map g.B.Bench.gives c.args.benches.items in
    did_folder g.D.Disk.tells g.B.Bench.tells gives c.args.plan c.args.options c.args.mc.now c.in-Ok.prefix tale status before start now runs runs_now c.in-Ok.ensures.prefix way (c.in-Ok.ensures.settled told) (c.build_in.ensures.folder told)

pub returns-in-Ok-clause-exactly : goal.returns-in-Ok-clause-exactly
returns-in-Ok-clause-exactly g c told b gives all reading book entry wanted disk bench sink memory apart =
    let before = g.D.Disk.story c.args.disk in
    let start = g.D.Disk.story c.prefix_ready.new.disk in
    c.build_in.ensures.exactly told b gives all reading book
    (subst (λ (h : Store). IsEntry gives reading book h c.args.plan) (sym (ready_holds c.args.mc.now c.in-Ok.prefix before start c.in-Ok.ensures.prefix (c.in-Ok.ensures.way told))) entry)
    wanted (λ rose. disk (later (g.D.Disk.faults c.args.disk) (g.D.Disk.faults c.prefix_ready.new.disk) (g.D.Disk.faults c.build_in.result.disk) c.in-Ok.ensures.cause.later rose)) bench sink memory apart
  where
    later : (before mid now : ℕ) → before ≤ mid → Rose mid now → Rose before now
    later before mid now lt rose = omega (arith, lt, rose)

pub returns-in-Err-clause-ends : goal.returns-in-Err-clause-ends
returns-in-Err-clause-ends g c =
    c.build_unready.ensures.ends (g.D.Disk.faults c.build_unready.result.disk)
    (λ e. subst (λ d. 0 < g.D.Disk.faults d) (sym c.build_unready.ensures.disk) (failed_rose c.in-Err.fault (g.D.Disk.faults c.args.disk) (g.D.Disk.faults c.prefix_ready.new.disk) c.in-Err.ensures.cause e))
