use Rattle.std.proofs.Common.{◌==◌, sym, ◌∙◌, arith}
use Rattle.std.proofs.lemmas.Grind.{common_steps}
use Rattle.bb_parser.proofs.Fronts.{before_first-some, before_first-none}
use Rattle.bb_parser.proofs.scan.up_to.Goals as goal

pub returns-in-Some : goal.returns-in-Some
returns-in-Some c = let e = before_first-some (λ b. b == c.args.byte) c.args.bytes.now c.in-Some.end (sym c.place_of.ensures.first ∙ c.in-Some.is) in rw e (grind (arith, common_steps))

pub returns-in-None : goal.returns-in-None
returns-in-None c = sym (before_first-none (λ b. b == c.args.byte) c.args.bytes.now (sym c.place_of.ensures.first ∙ c.in-None.is))
