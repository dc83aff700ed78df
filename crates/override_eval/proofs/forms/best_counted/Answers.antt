use Rattle.std.proofs.Common.{subst}
use Rattle.override_eval.specs.Winner.{IsBestOf}
use Rattle.override_eval.proofs.Best.{take_first}
use Rattle.override_eval.proofs.forms.best_counted.Goals as goal

pub better_place-requires-clause-before : goal.better_place-requires-clause-before
better_place-requires-clause-before c = (subst (λ b. IsBestOf c.args.active.now c.args.forms.now c.args.place b) c.in-Some.is c.requires.best).0

pub better_place-requires-clause-best : goal.better_place-requires-clause-best
better_place-requires-clause-best c = subst (λ b. IsBestOf c.args.active.now c.args.forms.now c.args.place b) c.in-Some.is c.requires.best

pub returns-in-None : goal.returns-in-None
returns-in-None c = take_first c.args.active.now c.args.forms.now c.args.place (subst (λ b. IsBestOf c.args.active.now c.args.forms.now c.args.place b) c.in-None.is c.requires.best) c.requires.counted
