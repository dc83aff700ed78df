use Rattle.std.proofs.Common.{◌+◌, ◌*◌, vec_len}
use Rattle.run_workers.proofs.workers.+fn-spread-join+arg2+spread.Given as goal

abbrev pub decreases-join+arg2 : goal.decreases-join+arg2
decreases-join+arg2 g l = 2 * vec_len l.benches + 2

abbrev pub decreases-spread : goal.decreases-spread
decreases-spread g l = 2 * vec_len l.benches + 1
