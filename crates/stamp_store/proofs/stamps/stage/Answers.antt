use Rattle.std.proofs.Common.{◌≡◌, ◌∙◌}
use Rattle.stamp_store.specs.Stamp.{staged_path}
use Rattle.outside_traits.proofs.Calls.{writes_passes}
use Rattle.stamp_store.proofs.stamps.stage.Goals as goal

pub returns-clause-images : goal.returns-clause-images
returns-clause-images g c told =
    let is : c.as_str.result.now ≡ staged_path c.args.folder.now = c.as_str.ensures ∙ c.in_ok-path.ensures in
    rw is at (writes_passes (c.write.ensures.told told))
