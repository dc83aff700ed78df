use Rattle.std.proofs.Common.{length}
use Rattle.build_resume.proofs.workers.+with_at_most.Given as goal

abbrev pub decreases-with_at_most : goal.decreases-with_at_most
decreases-with_at_most g l = length l.benches.items
