use Rattle.run_queue.proofs.Known.{sound_ordered}
use Rattle.bitbake_top.proofs.Whying.{told_clash}
use Rattle.bitbake_top.proofs.reasons.why_plan.Goals as goal

pub why_text-disk-requires-clause-ordered : goal.why_text-disk-requires-clause-ordered
why_text-disk-requires-clause-ordered g c = sound_ordered c.args.plan.now c.requires.sound

pub returns-clause-clash : goal.returns-clause-clash
returns-clause-clash g c = told_clash c.args.plan.now c.why_text-disk.result.text c.print_told.result c.print_told.ensures.status c.why_text-disk.ensures.refused
