use Rattle.outside_traits.proofs.Sound.{sound_removed}
use Rattle.outside_mem.specs.Kept.{story_by}
use Rattle.outside_mem.proofs.Stories.{sound_either}
use Rattle.outside_mem.proofs.mem_disk.MemDiskDisk.remove.Goals as goal

pub invariant_of-self : goal.invariant_of-self
invariant_of-self c = record {
  sound = sound_either c.keep_removal.result _ _ _ c.keep_removal.ensures.ok c.keep_removal.ensures.err c.args.self.now.sound
      (sound_removed (story_by c.args.self.now.tree c.args.self.now.calls.items) c.args.path.now c.args.self.now.sound);
}
