use Rattle.outside_traits.proofs.Sound.{sound_ended}
use Rattle.outside_mem.specs.Kept.{story_by}
use Rattle.outside_mem.proofs.Stories.{sound_either}
use Rattle.outside_mem.proofs.mem_disk.MemDiskDisk.end_sync.Goals as goal

pub invariant_of-self : goal.invariant_of-self
invariant_of-self c = record {
  sound = sound_either c.keep_ended.result _ _ _ c.keep_ended.ensures.ok c.keep_ended.ensures.err c.args.self.now.sound
      (sound_ended (story_by c.args.self.now.tree c.args.self.now.calls.items) c.args.moment c.args.self.now.sound);
}
