use Rattle.var_expand.proofs.Steps.{one_more}
use Rattle.var_expand.proofs.standing.Standing.with_opening.Goals as goal

pub returns : goal.returns
returns c = λ rest. one_more c.args.self.outer.items c.push.new.self.items c.args.self.inner c.new.result rest c.in_ok-push.ensures.items c.new.ensures
