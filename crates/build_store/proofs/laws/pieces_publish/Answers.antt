use Rattle.build_store.proofs.Piecing.{opens_is_publishing, works_is_publishing, finishes_is_publishing}
use Rattle.build_store.proofs.GoingRuns.{in_a_row}
use Rattle.build_store.proofs.laws.pieces_publish.Goals as goal

pub returns-clause-opens : goal.returns-clause-opens
returns-clause-opens c = opens_is_publishing

pub returns-clause-works : goal.returns-clause-works
returns-clause-works c = works_is_publishing

pub returns-clause-finishes : goal.returns-clause-finishes
returns-clause-finishes c = finishes_is_publishing

pub returns-clause-row : goal.returns-clause-row
returns-clause-row c = in_a_row
