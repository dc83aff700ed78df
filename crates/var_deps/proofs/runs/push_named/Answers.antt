use Rattle.var_deps.specs.Seen.{seen_with}
use Rattle.var_deps.proofs.Calling.{passed}
use Rattle.var_deps.proofs.runs.push_named.Goals as goal

pub returns-then-is_no_function : goal.returns-then-is_no_function
returns-then-is_no_function c = λ more. passed (seen_with c.args.seen.now.store.now c.args.seen.now.task) c.args.list.now c.args.name.now more (c.is_no_function.ensures c.if-is_no_function.true)
