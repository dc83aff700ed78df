use Rattle.plan_model.proofs.Meets.{sound_meets}
use Rattle.plan_model.proofs.laws.sound_plans_meet.Goals as goal

pub returns : goal.returns
returns c = sound_meets
