use Rattle.build_store.proofs.Noting.{noted_is_half}
use Rattle.build_store.proofs.Stepping.{step_goes_on, may_be_written, whole_at_last}
use Rattle.build_store.proofs.laws.steps_lead_on.Goals as goal

pub returns-clause-noted : goal.returns-clause-noted
returns-clause-noted c = noted_is_half

pub returns-clause-step : goal.returns-clause-step
returns-clause-step c = step_goes_on

pub returns-clause-free : goal.returns-clause-free
returns-clause-free c = may_be_written

pub returns-clause-whole : goal.returns-clause-whole
returns-clause-whole c = whole_at_last
