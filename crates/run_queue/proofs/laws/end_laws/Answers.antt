use Rattle.run_queue.proofs.AtEnd.{exact_at_end}
use Rattle.run_queue.proofs.Failing.{failed_is_real}
use Rattle.run_queue.proofs.Wanted.{all_have_outputs}
use Rattle.run_queue.proofs.laws.end_laws.Goals as goal

pub returns : goal.returns
returns c = record { exact = exact_at_end; real = failed_is_real; all = all_have_outputs }
