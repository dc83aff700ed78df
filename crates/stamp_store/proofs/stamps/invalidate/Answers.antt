use Rattle.std.proofs.Common.{◌≡◌, ◌∙◌}
use Rattle.outside_traits.proofs.Calls.{reads_passes, same_so, syncs_passes, then_same}
use Rattle.stamp_store.specs.Stamp.{TakesAway, stamp_path, old_path}
use Rattle.stamp_store.proofs.Aside.{images_last, removed_aside, renamed_aside, takes_nothing}
use Rattle.stamp_store.proofs.stamps.invalidate.Goals as goal

pub returns-then-is_none-clause-images : goal.returns-then-is_none-clause-images
returns-then-is_none-clause-images g c told =
    let run = then_same (reads_passes (c.read.ensures.told told)) (syncs_passes (g.met.D.Disk.sound c.read.new.self told) (c.sync.ensures.told told)) in
    same_so (TakesAway c.args.folder.now) (takes_nothing c.args.folder.now) run

pub returns-in_err-read-clause-images : goal.returns-in_err-read-clause-images
returns-in_err-read-clause-images g c told =
    same_so (TakesAway c.args.folder.now) (takes_nothing c.args.folder.now) (reads_passes (c.read.ensures.told told))

pub returns-in_err-sync-clause-images : goal.returns-in_err-sync-clause-images
returns-in_err-sync-clause-images g c told =
    let run = then_same (reads_passes (c.read.ensures.told told)) (syncs_passes (g.met.D.Disk.sound c.read.new.self told) (c.sync-2.ensures.told told)) in
    same_so (TakesAway c.args.folder.now) (takes_nothing c.args.folder.now) run

pub returns-in_err-rename-clause-images : goal.returns-in_err-rename-clause-images
returns-in_err-rename-clause-images g c told =
    let at : c.as_str-2.result.now ≡ stamp_path c.args.folder.now = c.as_str-2.ensures ∙ c.in_ok-path.ensures in
    let aside : c.as_str-3.result.now ≡ old_path c.args.folder.now = c.as_str-3.ensures ∙ c.in_ok-aside.ensures in
    let run = then_same (reads_passes (c.read.ensures.told told)) (syncs_passes (g.met.D.Disk.sound c.read.new.self told) (c.sync-2.ensures.told told)) in
    renamed_aside c.args.folder.now (g.met.D.Disk.sound c.sync-2.new.self told) run (rw (at, aside) at (c.rename.ensures.told told))

pub returns-in_err-sync-2-clause-images : goal.returns-in_err-sync-2-clause-images
returns-in_err-sync-2-clause-images g c told =
    let at : c.as_str-2.result.now ≡ stamp_path c.args.folder.now = c.as_str-2.ensures ∙ c.in_ok-path.ensures in
    let aside : c.as_str-3.result.now ≡ old_path c.args.folder.now = c.as_str-3.ensures ∙ c.in_ok-aside.ensures in
    let run = then_same (reads_passes (c.read.ensures.told told)) (syncs_passes (g.met.D.Disk.sound c.read.new.self told) (c.sync-2.ensures.told told)) in
    let renamed = renamed_aside c.args.folder.now (g.met.D.Disk.sound c.sync-2.new.self told) run (rw (at, aside) at (c.rename.ensures.told told)) in
    then_same renamed (syncs_passes (g.met.D.Disk.sound c.rename.new.self told) (c.sync-3.ensures.told told))

pub returns-clause-images : goal.returns-clause-images
returns-clause-images g c told =
    let at : c.as_str-2.result.now ≡ stamp_path c.args.folder.now = c.as_str-2.ensures ∙ c.in_ok-path.ensures in
    let aside : c.as_str-3.result.now ≡ old_path c.args.folder.now = c.as_str-3.ensures ∙ c.in_ok-aside.ensures in
    let aside_again : c.as_str-4.result.now ≡ old_path c.args.folder.now = c.as_str-4.ensures ∙ c.in_ok-aside.ensures in
    let run = then_same (reads_passes (c.read.ensures.told told)) (syncs_passes (g.met.D.Disk.sound c.read.new.self told) (c.sync-2.ensures.told told)) in
    let renamed = renamed_aside c.args.folder.now (g.met.D.Disk.sound c.sync-2.new.self told) run (rw (at, aside) at (c.rename.ensures.told told)) in
    let synced = then_same renamed (syncs_passes (g.met.D.Disk.sound c.rename.new.self told) (c.sync-3.ensures.told told)) in
    removed_aside c.args.folder.now synced (rw aside_again at (c.remove.ensures.told told))

pub returns-clause-synced : goal.returns-clause-synced
returns-clause-synced g c told =
    let aside_again : c.as_str-4.result.now ≡ old_path c.args.folder.now = c.as_str-4.ensures ∙ c.in_ok-aside.ensures in
    images_last (old_path c.args.folder.now) c.remove.result (c.in_ok-sync-2.ensures.told told) (rw aside_again at (c.remove.ensures.told told))
