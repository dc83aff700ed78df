use Rattle.bitbake_top.proofs.Sampled.{may_end}
use Rattle.bitbake_top.proofs.sample.run_once.Goals as goal

pub returns-clause-ends : goal.returns-clause-ends
returns-clause-ends g c = may_end c.in_ok-benches.benches.items c.run-status.result.benches.items c.run-status.result.status c.run-status.ensures.causes c.run-status.ensures.no_usage
