use Rattle.run_queue.proofs.Beside.{restoring_leaves}
use Rattle.run_queue.proofs.Meanwhile.{missing_stays, other_bytes, restoring_keeps_valid, started_stays_missing, told_at_end, told_goes_on}
use Rattle.run_queue.proofs.flight_laws.meanwhile_laws.Goals as goal

pub returns : goal.returns
returns c = record { restoring = restoring_keeps_valid; restored = restoring_leaves; missing = missing_stays; bytes = other_bytes; started = started_stays_missing; on = told_goes_on; told = told_at_end }
