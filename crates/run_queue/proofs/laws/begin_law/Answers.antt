use Rattle.run_queue.proofs.Beginning.{begin_is_run}
use Rattle.run_queue.proofs.laws.begin_law.Goals as goal

pub returns : goal.returns
returns c = begin_is_run
