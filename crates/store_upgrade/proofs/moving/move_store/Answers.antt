use Rattle.std.proofs.Common.{Bool, subst, sym}
use Rattle.outside_traits.specs.Fault.{Counts}
use Rattle.store_upgrade.specs.Faults.{is_disk_fault}
use Rattle.outside_traits.proofs.Calls.{then_same}
use Rattle.store_upgrade.proofs.Along.{counts_on, failed_of, opened_keeps}
use Rattle.store_upgrade.proofs.Clashes.{clash_of, disk_refused, move_refused}
use Rattle.store_upgrade.proofs.Made.{IsMade, read_of, run_upgrades}
use Rattle.store_upgrade.proofs.Upgrading.{is_upgraded}
use Rattle.store_upgrade.proofs.moving.move_store.Goals as goal

pub returns-in_err-rows-clause-images : goal.returns-in_err-rows-clause-images
returns-in_err-rows-clause-images g c told = (opened_keeps (g.D.Disk.story c.args.disk.now) (g.D.Disk.story c.open_disk.new.disk) (g.met.D.Disk.sound c.args.disk.now told) (c.requires.durable told) (c.open_disk.ensures.images told))

pub returns-in_err-read_under-clause-images : goal.returns-in_err-read_under-clause-images
returns-in_err-read_under-clause-images g c told = (then_same (opened_keeps (g.D.Disk.story c.args.disk.now) (g.D.Disk.story c.open_disk.new.disk) (g.met.D.Disk.sound c.args.disk.now told) (c.requires.durable told) (c.open_disk.ensures.images told)) (c.read_under.ensures.others told))

pub returns-in_err-keys-clause-images : goal.returns-in_err-keys-clause-images
returns-in_err-keys-clause-images g c told = (then_same (opened_keeps (g.D.Disk.story c.args.disk.now) (g.D.Disk.story c.open_disk.new.disk) (g.met.D.Disk.sound c.args.disk.now told) (c.requires.durable told) (c.open_disk.ensures.images told)) (c.read_under.ensures.others told))

pub returns-in_err-olds-clause-images : goal.returns-in_err-olds-clause-images
returns-in_err-olds-clause-images g c told = (then_same (then_same (opened_keeps (g.D.Disk.story c.args.disk.now) (g.D.Disk.story c.open_disk.new.disk) (g.met.D.Disk.sound c.args.disk.now told) (c.requires.durable told) (c.open_disk.ensures.images told)) (c.read_under.ensures.others told)) (c.read_olds.ensures.others told))

pub returns-in_err-moved-clause-images : goal.returns-in_err-moved-clause-images
returns-in_err-moved-clause-images g c told = (then_same (then_same (opened_keeps (g.D.Disk.story c.args.disk.now) (g.D.Disk.story c.open_disk.new.disk) (g.met.D.Disk.sound c.args.disk.now told) (c.requires.durable told) (c.open_disk.ensures.images told)) (c.read_under.ensures.others told)) (c.read_olds.ensures.others told))

pub returns-in_err-write_moved-clause-cause : goal.returns-in_err-write_moved-clause-cause
returns-in_err-write_moved-clause-cause g c =
    let failed = is_disk_fault c.in_err-write_moved.field-0.0 in
    let last = counts_on (g.D.Disk.faults c.read_under.new.disk) (g.D.Disk.faults c.read_olds.new.disk) (g.D.Disk.faults c.write_moved.new.disk) failed c.in_ok-olds.ensures.cause c.in_err-write_moved.ensures.cause in
    let more = counts_on (g.D.Disk.faults c.open_disk.new.disk) (g.D.Disk.faults c.read_under.new.disk) (g.D.Disk.faults c.write_moved.new.disk) failed c.in_ok-read_under.ensures.cause last in
    let all = counts_on (g.D.Disk.faults c.args.disk.now) (g.D.Disk.faults c.open_disk.new.disk) (g.D.Disk.faults c.write_moved.new.disk) failed c.in_ok-rows.ensures.cause more in
    subst (λ (b : Bool). Counts (g.D.Disk.faults c.args.disk.now) (g.D.Disk.faults c.write_moved.new.disk) b) (sym (failed_of c.from_residual-in_err-write_moved.result c.in_err-write_moved.field-0.0 c.from_residual-in_err-write_moved.ensures.1)) all

pub returns-in_err-moved-clause-clash : goal.returns-in_err-moved-clause-clash
returns-in_err-moved-clause-clash g c told =
    let read = read_of (g.D.Disk.story c.args.disk.now) (g.D.Disk.story c.open_disk.new.disk) (g.D.Disk.story c.read_under.new.disk) (g.D.Disk.story c.read_olds.new.disk) c.in_ok-rows.rows c.in_ok-olds.olds.items c.in_ok-keys.keys c.in_ok-read_under.field-0.items c.deref.result.now c.deref.ensures.value
    (c.in_ok-rows.ensures.images told) (c.in_ok-rows.ensures.opened told) (c.in_ok-read_under.ensures.others told) (c.in_ok-olds.ensures.others told)
    (c.in_ok-read_under.ensures.read told) c.in_ok-keys.ensures.known (c.in_ok-olds.ensures.olds told) in
    move_refused (g.D.Disk.story c.args.disk.now).held c.from_residual-in_err-moved.result c.in_err-moved.field-0.0 c.from_residual-in_err-moved.ensures.1
    (clash_of (g.D.Disk.story c.args.disk.now).held (g.D.Disk.story c.read_olds.new.disk).held c.in_ok-rows.rows c.in_ok-olds.olds.items c.in_ok-keys.keys read c.in_err-moved.field-0.0 c.in_err-moved.ensures.err)

pub returns-in_err-write_moved-clause-clash : goal.returns-in_err-write_moved-clause-clash
returns-in_err-write_moved-clause-clash g c told =
    disk_refused (g.D.Disk.story c.args.disk.now).held c.from_residual-in_err-write_moved.result c.in_err-write_moved.field-0.0 c.from_residual-in_err-write_moved.ensures.1

pub returns-in_err-write_moved-clause-images : goal.returns-in_err-write_moved-clause-images
returns-in_err-write_moved-clause-images g c told =
    let read = read_of (g.D.Disk.story c.args.disk.now) (g.D.Disk.story c.open_disk.new.disk) (g.D.Disk.story c.read_under.new.disk) (g.D.Disk.story c.read_olds.new.disk) c.in_ok-rows.rows c.in_ok-olds.olds.items c.in_ok-keys.keys c.in_ok-read_under.field-0.items c.deref.result.now c.deref.ensures.value
    (c.in_ok-rows.ensures.images told) (c.in_ok-rows.ensures.opened told) (c.in_ok-read_under.ensures.others told) (c.in_ok-olds.ensures.others told)
    (c.in_ok-read_under.ensures.read told) c.in_ok-keys.ensures.known (c.in_ok-olds.ensures.olds told) in
    let made : IsMade c.in_ok-rows.rows c.in_ok-olds.olds.items c.in_ok-keys.keys c.in_ok-moved.moved = record { told = c.in_ok-moved.ensures.moved; clear = c.in_ok-moved.ensures.clear; well = c.in_ok-moved.ensures.well } in
    run_upgrades (g.D.Disk.story c.args.disk.now) (g.D.Disk.story c.open_disk.new.disk) (g.D.Disk.story c.read_under.new.disk) (g.D.Disk.story c.read_olds.new.disk) (g.D.Disk.story c.write_moved.new.disk)
    (g.met.D.Disk.sound c.args.disk.now told) (g.met.D.Disk.sound c.read_olds.new.disk told) (c.requires.durable told) (c.in_ok-rows.ensures.durable told)
    (c.in_ok-rows.ensures.images told) (c.in_ok-read_under.ensures.others told) (c.in_ok-olds.ensures.others told) c.in_ok-rows.rows c.in_ok-olds.olds.items c.in_ok-keys.keys read c.in_ok-moved.moved made (c.in_err-write_moved.ensures.images told)

pub returns-clause-moved : goal.returns-clause-moved
returns-clause-moved g c told =
    let read = read_of (g.D.Disk.story c.args.disk.now) (g.D.Disk.story c.open_disk.new.disk) (g.D.Disk.story c.read_under.new.disk) (g.D.Disk.story c.read_olds.new.disk) c.in_ok-rows.rows c.in_ok-olds.olds.items c.in_ok-keys.keys c.in_ok-read_under.field-0.items c.deref.result.now c.deref.ensures.value
    (c.in_ok-rows.ensures.images told) (c.in_ok-rows.ensures.opened told) (c.in_ok-read_under.ensures.others told) (c.in_ok-olds.ensures.others told)
    (c.in_ok-read_under.ensures.read told) c.in_ok-keys.ensures.known (c.in_ok-olds.ensures.olds told) in
    let made : IsMade c.in_ok-rows.rows c.in_ok-olds.olds.items c.in_ok-keys.keys c.in_ok-moved.moved = record { told = c.in_ok-moved.ensures.moved; clear = c.in_ok-moved.ensures.clear; well = c.in_ok-moved.ensures.well } in
    is_upgraded (g.D.Disk.story c.args.disk.now).held (g.D.Disk.story c.read_olds.new.disk).held (g.D.Disk.story c.write_moved.new.disk).held c.in_ok-rows.rows c.in_ok-olds.olds.items c.in_ok-keys.keys read c.in_ok-moved.moved made (c.in_ok-write_moved.ensures.written told) c.in_ok-write_moved.ensures.readable (c.requires.old told)

pub returns-clause-images : goal.returns-clause-images
returns-clause-images g c told =
    let read = read_of (g.D.Disk.story c.args.disk.now) (g.D.Disk.story c.open_disk.new.disk) (g.D.Disk.story c.read_under.new.disk) (g.D.Disk.story c.read_olds.new.disk) c.in_ok-rows.rows c.in_ok-olds.olds.items c.in_ok-keys.keys c.in_ok-read_under.field-0.items c.deref.result.now c.deref.ensures.value
    (c.in_ok-rows.ensures.images told) (c.in_ok-rows.ensures.opened told) (c.in_ok-read_under.ensures.others told) (c.in_ok-olds.ensures.others told)
    (c.in_ok-read_under.ensures.read told) c.in_ok-keys.ensures.known (c.in_ok-olds.ensures.olds told) in
    let made : IsMade c.in_ok-rows.rows c.in_ok-olds.olds.items c.in_ok-keys.keys c.in_ok-moved.moved = record { told = c.in_ok-moved.ensures.moved; clear = c.in_ok-moved.ensures.clear; well = c.in_ok-moved.ensures.well } in
    run_upgrades (g.D.Disk.story c.args.disk.now) (g.D.Disk.story c.open_disk.new.disk) (g.D.Disk.story c.read_under.new.disk) (g.D.Disk.story c.read_olds.new.disk) (g.D.Disk.story c.write_moved.new.disk)
    (g.met.D.Disk.sound c.args.disk.now told) (g.met.D.Disk.sound c.read_olds.new.disk told) (c.requires.durable told) (c.in_ok-rows.ensures.durable told)
    (c.in_ok-rows.ensures.images told) (c.in_ok-read_under.ensures.others told) (c.in_ok-olds.ensures.others told) c.in_ok-rows.rows c.in_ok-olds.olds.items c.in_ok-keys.keys read c.in_ok-moved.moved made (c.in_ok-write_moved.ensures.images told)
