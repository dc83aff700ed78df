use Rattle.setscene_plan.proofs.Meanings.{current_follows}
use Rattle.setscene_plan.proofs.Settling.{settles}
use Rattle.setscene_plan.proofs.laws.settling_law.Goals as goal

pub returns-clause-settles : goal.returns-clause-settles
returns-clause-settles g c = λ view rows task kept is grown. settles g.M.Meaning.says view rows task kept is grown

pub returns-clause-follows : goal.returns-clause-follows
returns-clause-follows g c = λ follows view kept is. current_follows g.M.Meaning.says g.N.Meaning.says view kept follows is
