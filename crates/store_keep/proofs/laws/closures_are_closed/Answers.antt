use Rattle.store_keep.proofs.Closures.{closed_of, closure_is_one}
use Rattle.store_keep.proofs.Trying.{kept_are_closed, kept_are_few}
use Rattle.store_keep.proofs.laws.closures_are_closed.Goals as goal

pub returns : goal.returns
returns c = record { one = closure_is_one; closed = closed_of; kept = kept_are_closed; few = kept_are_few }
