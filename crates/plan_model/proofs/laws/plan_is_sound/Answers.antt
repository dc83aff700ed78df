use Rattle.plan_model.proofs.Soundness.{plan_is_sound, forced_is_sound}
use Rattle.plan_model.proofs.laws.plan_is_sound.Goals as goal

pub returns-clause-plan : goal.returns-clause-plan
returns-clause-plan c = plan_is_sound

pub returns-clause-forced : goal.returns-clause-forced
returns-clause-forced c = forced_is_sound
