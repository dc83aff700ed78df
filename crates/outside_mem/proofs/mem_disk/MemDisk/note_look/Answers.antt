use Rattle.outside_traits.proofs.Sound.{sound_looked}
use Rattle.outside_mem.specs.Kept.{story_by}
use Rattle.outside_mem.proofs.Stories.{sound_either}
use Rattle.outside_mem.proofs.mem_disk.MemDisk.note_look.Goals as goal

pub invariant_of-self : goal.invariant_of-self
invariant_of-self c = record {
  sound = sound_either c.keep_look.result _ _ _ c.keep_look.ensures.ok c.keep_look.ensures.err c.args.self.now.sound
      (sound_looked (story_by c.args.self.now.tree c.args.self.now.calls.items) c.args.self.now.sound);
}
