use Rattle.bitbake_top.proofs.FirstRun.{words_begin_first}
use Rattle.bitbake_top.proofs.Kept.{begins_again, begins_first}
use Rattle.bitbake_top.proofs.laws.begin_laws.Goals as goal

pub returns-clause-first : goal.returns-clause-first
returns-clause-first c = begins_first

pub returns-clause-again : goal.returns-clause-again
returns-clause-again c = begins_again

pub returns-clause-words : goal.returns-clause-words
returns-clause-words c = words_begin_first
