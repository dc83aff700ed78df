use Rattle.outside_traits.proofs.Durable as lemmas
use Rattle.outside_traits.proofs.laws.ends_narrow.Goals as goal

pub returns-clause-passes : goal.returns-clause-passes
returns-clause-passes c = lemmas.end_passes

pub returns-clause-narrows : goal.returns-clause-narrows
returns-clause-narrows c = lemmas.end_narrows

pub returns-clause-older : goal.returns-clause-older
returns-clause-older c = lemmas.older_is_nothing

pub returns-clause-lost : goal.returns-clause-lost
returns-clause-lost c = lemmas.later_may_be_lost
