use Rattle.std.proofs.Common.{arith}
use Rattle.std.proofs.lemmas.Grind.{common_steps}
use Rattle.meta_model.specs.Grammar.{operator}
use Rattle.bb_parser.proofs.names.first_operator.Goals as goal

pub returns-in_err-op : goal.returns-in_err-op
unfolding operator
returns-in_err-op c = grind (arith, common_steps)

pub returns : goal.returns
unfolding operator
returns c = grind (arith, common_steps)
