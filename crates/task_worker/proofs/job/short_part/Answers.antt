use Rattle.std.proofs.Common.{refl}
use Rattle.meta_model.proofs.Limits.{long_false}
use Rattle.task_worker.proofs.job.short_part.Goals as goal

pub returns-then-are_short : goal.returns-then-are_short
returns-then-are_short c = (refl, long_false c.args.part (c.are_short.ensures.short.0 c.if-are_short.true))
