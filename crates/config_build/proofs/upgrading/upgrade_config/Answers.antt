use Rattle.std.proofs.Common.{◌≡◌, ◌≤◌, ap, sym, subst, arith, ℕ, List, length}
use Rattle.std.specs.Prelude.{OnOk}
use Rattle.outside_traits.specs.Store.{Store}
use Rattle.store_upgrade.specs.Upgraded.{IsUpgraded}
use Rattle.sub_disk.specs.Sub.{IsPrefix, below}
use Rattle.multi_config.proofs.Folders.{prefix_is, prefix_short}
use Rattle.multi_config.specs.Configs.{store_prefix}
use Rattle.config_build.specs.Upgrading.{not_ready}
use Rattle.config_build.proofs.Ways.{brings_up, counts_after, disk_fault_same, ready_holds}
use Rattle.config_build.proofs.upgrading.upgrade_config.Goals as goal

pub upgrade_in-requires-clause-place : goal.upgrade_in-requires-clause-place
upgrade_in-requires-clause-place g c = subst IsPrefix (sym c.in-Ok.ensures.prefix) (prefix_is c.args.mc.now c.requires.name)

pub upgrade_in-requires-clause-short : goal.upgrade_in-requires-clause-short
upgrade_in-requires-clause-short g c = let e = ap length c.in-Ok.ensures.prefix in let short = prefix_short c.args.mc.now c.requires.name in omega (arith, e, short)

pub returns-in-Ok-clause-upgraded : goal.returns-in-Ok-clause-upgraded
returns-in-Ok-clause-upgraded g c told =
    let before = g.D.Disk.story c.args.disk in
    let start = g.D.Disk.story c.prefix_ready.new.disk in
    let now = g.D.Disk.story c.upgrade_in.result.disk in
    subst (λ (h : Store). OnOk c.upgrade_in.result.done (IsUpgraded h (below (store_prefix c.args.mc.now) now.held))) (ready_holds c.args.mc.now c.in-Ok.prefix before start c.in-Ok.ensures.prefix (c.in-Ok.ensures.way told))
    (subst (λ (p : List ℕ). OnOk c.upgrade_in.result.done (IsUpgraded (below c.in-Ok.prefix start.held) (below p now.held))) c.in-Ok.ensures.prefix (c.upgrade_in.ensures.upgraded told))

pub returns-in-Ok-clause-along : goal.returns-in-Ok-clause-along
returns-in-Ok-clause-along g c told =
    brings_up c.args.mc.now c.in-Ok.prefix (g.D.Disk.story c.args.disk) (g.D.Disk.story c.prefix_ready.new.disk) (g.D.Disk.story c.upgrade_in.result.disk) c.in-Ok.ensures.prefix (c.in-Ok.ensures.way told) (c.in-Ok.ensures.settled told) (c.upgrade_in.ensures.folder told)

pub returns-in-Ok-clause-cause : goal.returns-in-Ok-clause-cause
returns-in-Ok-clause-cause g c = counts_after _ _ _ _ c.in-Ok.ensures.cause c.upgrade_in.ensures.cause

pub returns-in-Err-clause-along : goal.returns-in-Err-clause-along
returns-in-Err-clause-along g c told = not_ready (c.in-Err.ensures.way told)

pub returns-in-Err-clause-cause : goal.returns-in-Err-clause-cause
returns-in-Err-clause-cause g c = disk_fault_same (List ℕ) _ _ c.in-Err.fault c.in-Err.ensures.cause
