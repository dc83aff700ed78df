use Rattle.std.proofs.Common.{◌≡◌, ◌∙◌}
use Rattle.stamp_store.specs.Stamp.{staged_path, stamp_path}
use Rattle.outside_traits.proofs.Calls.{renames_passes, syncs_passes, then_same}
use Rattle.stamp_store.proofs.stamps.stamp.Goals as goal

pub returns-in_err-rename-clause-images : goal.returns-in_err-rename-clause-images
returns-in_err-rename-clause-images g c told =
    let from_is : c.as_str.result.now ≡ staged_path c.args.folder.now = c.as_str.ensures ∙ c.in_ok-from.ensures in
    let to_is : c.as_str-2.result.now ≡ stamp_path c.args.folder.now = c.as_str-2.ensures ∙ c.in_ok-to.ensures in
    rw (from_is, to_is) at (renames_passes (g.met.D.Disk.sound c.args.disk.now told) (c.rename.ensures.told told))

pub returns-clause-images : goal.returns-clause-images
returns-clause-images g c told =
    let from_is : c.as_str.result.now ≡ staged_path c.args.folder.now = c.as_str.ensures ∙ c.in_ok-from.ensures in
    let to_is : c.as_str-2.result.now ≡ stamp_path c.args.folder.now = c.as_str-2.ensures ∙ c.in_ok-to.ensures in
    let moved = rw (from_is, to_is) at (renames_passes (g.met.D.Disk.sound c.args.disk.now told) (c.rename.ensures.told told)) in
    then_same moved (syncs_passes (g.met.D.Disk.sound c.rename.new.self told) (c.sync.ensures.told told))
