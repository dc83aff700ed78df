use Rattle.bitbake_top.proofs.Era.{eras_are_exact, eras_go_on}
use Rattle.bitbake_top.proofs.laws.era_laws.Goals as goal

pub returns-clause-begins : goal.returns-clause-begins
returns-clause-begins c = eras_go_on

pub returns-clause-exact : goal.returns-clause-exact
returns-clause-exact c = eras_are_exact
