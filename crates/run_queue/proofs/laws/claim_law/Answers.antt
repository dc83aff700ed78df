use Rattle.run_queue.proofs.Claiming.{claim_may_come}
use Rattle.run_queue.proofs.laws.claim_law.Goals as goal

pub returns : goal.returns
returns c = claim_may_come
