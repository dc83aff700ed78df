use Rattle.meta_model.proofs.Readings.{has_most_references}
use Rattle.meta_model.proofs.laws.reading_laws.Goals as goal

pub returns : goal.returns
returns c = has_most_references
