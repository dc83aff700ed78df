use Rattle.outside_traits.proofs.Sound.{sound_synced}
use Rattle.outside_mem.specs.Kept.{story_by}
use Rattle.outside_mem.proofs.Stories.{sound_either}
use Rattle.outside_mem.proofs.mem_disk.MemDiskDisk.sync.Goals as goal

pub invariant_of-self : goal.invariant_of-self
invariant_of-self c = record {
  sound = sound_either c.keep_sync.result _ _ _ c.keep_sync.ensures.ok c.keep_sync.ensures.err c.args.self.now.sound
      (sound_synced (story_by c.args.self.now.tree c.args.self.now.calls.items) c.args.self.now.sound);
}
