use Rattle.multi_config.proofs.Apart.{parts_are_apart, reached_are_others}
use Rattle.multi_config.proofs.Crashes.{reached_are_apart}
use Rattle.multi_config.proofs.laws.parts_law.Goals as goal

pub returns-clause-apart : goal.returns-clause-apart
returns-clause-apart c = parts_are_apart

pub returns-clause-others : goal.returns-clause-others
returns-clause-others c = reached_are_others

pub returns-clause-reached : goal.returns-clause-reached
returns-clause-reached c = reached_are_apart
