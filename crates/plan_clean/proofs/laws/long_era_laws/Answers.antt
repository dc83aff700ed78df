use Rattle.plan_clean.proofs.Eras.{long_eras_are_exact, long_eras_go_on}
use Rattle.plan_clean.proofs.laws.long_era_laws.Goals as goal

pub returns-clause-begins : goal.returns-clause-begins
returns-clause-begins c = long_eras_go_on

pub returns-clause-exact : goal.returns-clause-exact
returns-clause-exact c = long_eras_are_exact
