use Rattle.run_queue.proofs.Known.{sound_ordered}
use Rattle.run_queue.proofs.closing.resettle.Goals as goal

pub known_after-requires-clause-ordered : goal.known_after-requires-clause-ordered
known_after-requires-clause-ordered g c = sound_ordered c.args.plan.now c.requires.sound
