use Rattle.run_core.proofs.Besides.{found_alone}
use Rattle.run_core.proofs.scan.find_any.Goals as goal

pub returns : goal.returns
returns c = found_alone c.args.tasks.now c.args.need.now c.args.avail.now c.args.fates.now c.find.result c.find.ensures
