use Rattle.plan_model.proofs.Spelling.{sound_has_spellings}
use Rattle.plan_model.proofs.laws.sound_plans_have_spellings.Goals as goal

pub returns : goal.returns
returns c = sound_has_spellings
