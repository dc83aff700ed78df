use Rattle.std.proofs.Common.{sym, ◌∙◌, arith}
use Rattle.std.proofs.lemmas.Grind.{common_steps}
use Rattle.meta_model.proofs.Splits.{split_at_first-some, split_at_first-none}
use Rattle.bb_parser.proofs.writable.line_and_rest.Goals as goal

pub returns-in-Some : goal.returns-in-Some
returns-in-Some c = let e = split_at_first-some 10 c.args.bytes.now c.in-Some.at (sym c.place_of.ensures.first ∙ c.in-Some.is) in rw e (grind (arith, common_steps))

pub returns-in-None : goal.returns-in-None
returns-in-None c = split_at_first-none 10 c.args.bytes.now (sym c.place_of.ensures.first ∙ c.in-None.is)
