use Rattle.task_worker.proofs.Limits.{fits_long, fits_short}
use Rattle.task_worker.proofs.running.is_fit.Goals as goal

pub returns-then-are_short-clause-fit : goal.returns-then-are_short-clause-fit
returns-then-are_short-clause-fit c = fits_short c.args.tree.now c.are_short.result c.is_within.result c.size.result c.if-are_short.true c.are_short.ensures.short c.size.ensures c.is_within.ensures.within c.is_within.ensures.beyond

pub returns-else-are_short-clause-fit : goal.returns-else-are_short-clause-fit
returns-else-are_short-clause-fit c = fits_long c.args.tree.now c.are_short.result c.if-are_short.false c.are_short.ensures.short
