use Rattle.setscene_plan.proofs.Lasting.{need_lasts, one_need}
use Rattle.setscene_plan.proofs.laws.need_law.Goals as goal

pub returns-clause-same : goal.returns-clause-same
returns-clause-same c = λ plan avail other need is agree. need_lasts plan avail other need is agree

pub returns-clause-one : goal.returns-clause-one
returns-clause-one c = λ plan avail need other is too. one_need plan avail need other is too
