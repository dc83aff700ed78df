use Rattle.std.proofs.Common.{ℕ}
use Rattle.run_core.specs.Choice.{CannotGoOnBeside}
use Rattle.run_core.proofs.Besides.{step_on}
use Rattle.run_core.proofs.scan.find_within.Goals as goal

pub loop-place-preserved : goal.loop-place-preserved
loop-place-preserved c =
    step_on (λ (t : ℕ). CannotGoOnBeside c.args.tasks.now c.args.need.now c.args.avail.now c.args.fates.now c.args.taken.now t) c.args.from c.loop-place.place c.loop-place.invariant (rw c.in_default.is at c.way_beside.ensures)
