use Rattle.std.proofs.Common.{sym}
use Rattle.std.proofs.lemmas.List.{take_all}
use Rattle.task_graph.proofs.providers.has_package_for.Goals as goal

pub returns : goal.returns
returns c = sym (rw (take_all _ _ c.loop-package-test.false) at c.loop-package.invariant)
