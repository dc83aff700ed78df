use Rattle.outside_mem.proofs.Trees.{listing_told}
use Rattle.outside_traits.proofs.Sound.{sound_looked}
use Rattle.outside_mem.specs.Kept.{story_by}
use Rattle.outside_mem.proofs.Stories.{sound_either}
use Rattle.outside_mem.proofs.mem_disk.MemDiskDisk.list.Goals as goal

pub invariant_of-self : goal.invariant_of-self
invariant_of-self c = record {
  sound = sound_either c.keep_look.result _ _ _ c.keep_look.ensures.ok c.keep_look.ensures.err c.args.self.now.sound
      (sound_looked (story_by c.args.self.now.tree c.args.self.now.calls.items) c.args.self.now.sound);
}

pub returns-clause-told : goal.returns-clause-told
returns-clause-told c = λ told. record { answers = (listing_told c.args.prefix.now c.args.self.now.tree c.in_ok-found.found c.in_ok-found.ensures, c.in_ok-keep_look.ensures.ok) }
