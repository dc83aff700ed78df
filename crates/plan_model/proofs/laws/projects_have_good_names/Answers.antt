use Rattle.plan_model.proofs.GoodConfig.{project_has_good_names}
use Rattle.plan_model.proofs.laws.projects_have_good_names.Goals as goal

pub returns : goal.returns
returns c = project_has_good_names
