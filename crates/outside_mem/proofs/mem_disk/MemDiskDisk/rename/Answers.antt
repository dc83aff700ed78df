use Rattle.outside_traits.proofs.Sound.{sound_moved}
use Rattle.outside_mem.specs.Kept.{story_by}
use Rattle.outside_mem.proofs.Stories.{sound_either}
use Rattle.outside_mem.proofs.mem_disk.MemDiskDisk.rename.Goals as goal

pub invariant_of-self : goal.invariant_of-self
invariant_of-self c = record {
  sound = sound_either c.keep_move.result _ _ _ c.keep_move.ensures.ok c.keep_move.ensures.err c.args.self.now.sound
      (sound_moved (story_by c.args.self.now.tree c.args.self.now.calls.items) c.args.from.now c.args.to.now _ c.requires.clean (c.requires.free tt) c.args.self.now.sound);
}
