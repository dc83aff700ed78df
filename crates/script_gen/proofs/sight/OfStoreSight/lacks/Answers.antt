use Rattle.std.proofs.Common.{sym}
use Rattle.script_gen.proofs.Lacking.{lacks}
use Rattle.script_gen.proofs.sight.OfStoreSight.lacks.Goals as goal

pub returns-in-None : goal.returns-in-None
returns-in-None c = λ h. lacks c.args.self.now.store.now c.args.self.now.task.now c.args.name.now c.args.flag.now (sym c.in-None.ensures)
