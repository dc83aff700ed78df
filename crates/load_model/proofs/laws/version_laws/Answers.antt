use Rattle.load_model.proofs.VersionOrder.{version_order}
use Rattle.load_model.proofs.laws.version_laws.Goals as goal

pub returns : goal.returns
returns c = version_order
